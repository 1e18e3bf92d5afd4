use Rattle.std.proofs.Common.{◌<◌, length, arith}
use Rattle.polynomial.proofs.Fills.{filled_more}
use Rattle.polynomial.proofs.division.fill_remainder.Goals as goal

pub loop-k-preserved : goal.loop-k-preserved
loop-k-preserved g c =
    let within : c.loop-k.k < length c.loop-k.remainder = omega arith in
    filled_more c.carry.result within c.loop-k.invariant c.carry.ensures.means c.carry.ensures.tidy
