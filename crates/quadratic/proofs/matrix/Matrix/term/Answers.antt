use Rattle.std.proofs.Common.{◌+◌, ◌*◌, ◌<◌, length, rules, arith}
use Rattle.std.proofs.lemmas.Nat.{mul-add-lt}
use Rattle.quadratic.proofs.matrix.Matrix.term.Goals as goal

pub offset_bounds-self-k : goal.offset_bounds-self-k
offset_bounds-self-k g c =
    let s = c.args.self.now in
    let t = 1 + s.system.variables + length s.system.pairs.now in
    let within : c.args.k * t + c.args.j < length s.system.coefficients.now = omega (arith, mul-add-lt c.args.k t c.args.j s.equations c.requires.row c.requires.column) in
    search rules
