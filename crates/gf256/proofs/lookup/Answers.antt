use Rattle.std.proofs.Common.{◌<◌, length, rules}
use Rattle.gf256.proofs.Table.{tabled}
use Rattle.gf256.proofs.lookup.Goals as goal

pub returns : goal.returns
returns c =
    let table = c.inverses.result.now in
    let within : c.args.a < length table = search rules in
    tabled table c.args.a c.inverses.ensures within
