use Rattle.std.proofs.Common.{◌≡◌, ℕ, ◌+◌, ◌≤◌, map, drop}
use Rattle.std.specs.List.{AllByRecursion}
use Rattle.algebra.specs.Polynomials.{coeff}
use Rattle.polynomial.specs.Cells.{carried}
use Rattle.polynomial.proofs.division.fill_quotient.Given as goal

abbrev pub invariant-loop-k : goal.invariant-loop-k
invariant-loop-k g l =
    let f = g.F.Field in
    let q = map f.mean l.quotient in
    ((i : ℕ) → l.k ≤ i → coeff f.ops q i ≡ carried f.ops (map f.mean l.p) (f.mean l.alpha) q (i + l.n))
    × AllByRecursion f.reduced (drop l.k l.quotient)
