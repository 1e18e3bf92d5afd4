-- The theorems, over the operations of a field.
use Rattle.std.specs.Prelude.{◌≡◌, ℕ, ◌+◌, ◌-◌, ◌*◌, ◌≤◌, max, ◌⊎◌, List, length, ◌≢◌}
use Rattle.field.specs.Field.{Ops}
use Rattle.algebra.specs.Polynomials.{coeff, value}
use Rattle.algebra.specs.Relation.{Claim, width, Holds}
use Rattle.algebra.specs.Roots.{Each, Distinct}
use Rattle.algebra.specs.Proofs.{Reply, Shaped, ReplyShaped, Equations, Honest}
use Rattle.algebra.specs.Challenges.{D1, D2, D3, LuckyAlpha, LuckyBeta, LuckyZ}

-- a polynomial of at most L coefficients, one of them not zero, has at most L - 1 roots
abbrev pub RootBound : {K : Type 0} → Ops K → Type 0
RootBound {K} f =
    (p : List K) (L : ℕ) (xs : List K) → length p ≤ L → ((i : ℕ) × (coeff f p i ≢ f.nil))
    → Distinct xs → Each (λ x. value f p x ≡ f.nil) xs → length xs ≤ L - 1

-- if the equations hold at a z other than zero and the claim does not hold, then α, β or z is lucky
abbrev pub Sound : {K : Type 0} → Ops K → Type 0
Sound {K} f =
    (s : Claim K) (p : Reply K) (α β z : K) → Shaped s → ReplyShaped s p → (z ≢ f.nil)
    → Equations f s p α β z → (Holds f s → ⊥) → (LuckyAlpha f s α) ⊎ ((LuckyBeta f s β) ⊎ (LuckyZ f s p α β z))

-- at most m - 1 values of α are lucky, whether zero is among them or not
abbrev pub FewAlpha : {K : Type 0} → Ops K → Type 0
FewAlpha {K} f = (s : Claim K) (xs : List K) → Distinct xs → Each (LuckyAlpha f s) xs → length xs ≤ s.m - 1

-- at most n - 1 values of β are lucky
abbrev pub FewBeta : {K : Type 0} → Ops K → Type 0
FewBeta {K} f = (s : Claim K) (xs : List K) → Distinct xs → Each (LuckyBeta f s) xs → length xs ≤ s.n - 1

-- at most max(m·N - 1, 6n) values of z are lucky
abbrev pub FewZ : {K : Type 0} → Ops K → Type 0
FewZ {K} f =
    (s : Claim K) (p : Reply K) (α β : K) (xs : List K) → Shaped s → ReplyShaped s p
    → Distinct xs → Each (LuckyZ f s p α β) xs → length xs ≤ max (s.m * width s - 1) (6 * s.n)

-- D1, D2 and D3 have no coefficients past m·N, 6n + 1 and 2n - 1
abbrev pub Ends : {K : Type 0} → Ops K → Type 0
Ends {K} f =
    (s : Claim K) (p : Reply K) (α β : K) (k : ℕ) → Shaped s → ReplyShaped s p
    → (s.m * width s ≤ k → D1 f s p α k ≡ f.nil) × (6 * s.n + 1 ≤ k → D2 f s p α k ≡ f.nil) × (2 * s.n - 1 ≤ k → D3 f s p β k ≡ f.nil)

-- an honest reply to a claim that holds meets the equations at every z other than zero
abbrev pub Complete : {K : Type 0} → Ops K → Type 0
Complete {K} f =
    (s : Claim K) (p : Reply K) (α β z : K) → Shaped s → ReplyShaped s p → 6 * s.n ≤ f.span
    → Holds f s → Honest f s p α β → (z ≢ f.nil) → Equations f s p α β z
