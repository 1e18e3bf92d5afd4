use Rattle.std.proofs.Common.{map}
use Rattle.polynomial.specs.Cells.{carried}
use Rattle.polynomial.proofs.Fills.{Filled}
use Rattle.polynomial.proofs.division.fill_remainder.Given as goal

abbrev pub invariant-loop-k : goal.invariant-loop-k
invariant-loop-k g l =
    let f = g.F.Field in
    Filled f.ops f.mean f.reduced (carried f.ops (map f.mean l.p) (f.mean l.alpha) (map f.mean l.quotient)) l.remainder l.k
