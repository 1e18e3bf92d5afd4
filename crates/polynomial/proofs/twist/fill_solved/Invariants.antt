use Rattle.std.proofs.Common.{◌≡◌, ℕ, ◌≤◌, map}
use Rattle.algebra.specs.Polynomials.{coeff}
use Rattle.polynomial.specs.Twist.{untwisted}
use Rattle.polynomial.proofs.Fills.{Filled}
use Rattle.polynomial.proofs.twist.fill_solved.Given as goal

abbrev pub invariant-loop-k : goal.invariant-loop-k
invariant-loop-k g l =
    let f = g.F.Field in
    let c = map f.mean l.initial.cells in
    Filled f.ops f.mean f.reduced (λ k. untwisted f.ops l.d (f.mean l.free) (coeff f.ops c k) k) l.cells l.k
    × ((i : ℕ) → l.k ≤ i → coeff f.ops (map f.mean l.cells) i ≡ coeff f.ops c i)
