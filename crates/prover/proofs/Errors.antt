-- The first place where two rows of elements differ.
use Rattle.std.proofs.Common.{◌≡◌, ℕ, ◌<◌, ◌≤◌, true, false, Option, Some, None, MatchOption, arith}
use Rattle.field.specs.Field.{Ops, Laws}
use Rattle.algebra.specs.Sums.{sub}
use Rattle.algebra.proofs.Relation.{same_sub, differ_sub}
use Rattle.prover.specs.Findings.{FirstOff}

module _ {K : Type 0} (f : Ops K) (laws : Laws f) (a b : ℕ → K) (n : ℕ) where
  pub first_off : (r : Option ℕ)
      → MatchOption r ((k : ℕ) → 0 ≤ k → k < n → f.same (a k) (b k) ≡ true) (λ i. (0 ≤ i) × (i < n) × (f.same (a i) (b i) ≡ false) × ((k : ℕ) → 0 ≤ k → k < i → f.same (a k) (b k) ≡ true))
      → FirstOff f n (λ k. sub f (a k) (b k)) r
  first_off None h = λ k l. same_sub f laws (a k) (b k) (h k (omega arith) l)
  first_off (Some i) (_, within, off, below) = (within, (λ k l. same_sub f laws (a k) (b k) (below k (omega arith) l)), differ_sub f laws (a i) (b i) off)
