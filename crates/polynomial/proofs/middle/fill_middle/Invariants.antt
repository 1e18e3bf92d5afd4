use Rattle.std.proofs.Common.{map}
use Rattle.algebra.specs.Polynomials.{coeff, middle}
use Rattle.polynomial.proofs.Fills.{Filled}
use Rattle.polynomial.proofs.middle.fill_middle.Given as goal

abbrev pub invariant-loop-k : goal.invariant-loop-k
invariant-loop-k g l =
    let f = g.F.Field in
    Filled f.ops f.mean f.reduced (middle f.ops l.d (coeff f.ops (map f.mean l.a)) (coeff f.ops (map f.mean l.b))) l.out l.k
