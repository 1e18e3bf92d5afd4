-- The lucky challenges: values of α, β and z at which a false claim may pass.
use Rattle.std.specs.Prelude.{◌≡◌, ℕ, ◌+◌, ◌-◌, ◌*◌, ◌<◌, ◌≢◌}
use Rattle.field.specs.Field.{Ops, power}
use Rattle.algebra.specs.Sums.{sum, sub}
use Rattle.algebra.specs.Polynomials.{coeff, value, monomial, binomial, product, middle}
use Rattle.algebra.specs.Relation.{Claim, width, wires, row_error, gate_error}
use Rattle.algebra.specs.Proofs.{Reply, left_scaled}

-- the value at x of the first n coefficients c: the sum of c[i]·x^i over i < n
abbrev pub series : {K : Type 0} → Ops K → ℕ → (ℕ → K) → K → K
series f n c x = sum f n (λ i. f.mul (c i) (power f x i))

-- the zero polynomial: every coefficient is zero
abbrev pub Zero : {K : Type 0} → Ops K → (ℕ → K) → Type 0
Zero f c = (i : ℕ) → c i ≡ f.nil

-- one of the first n of c is not zero, and yet their polynomial is zero at x
pub record Lucky {K : Type 0} (f : Ops K) (n : ℕ) (c : ℕ → K) (x : K) : Type 0 where
  pub off : (i : ℕ) × (i < n) × (c i ≢ f.nil)
  pub hit : series f n c x ≡ f.nil

-- some e[i] is not zero, and the sum of e[i]·α^i over i < m is
abbrev pub LuckyAlpha : {K : Type 0} → Ops K → Claim K → K → Type 0
LuckyAlpha f s α = Lucky f s.m (row_error f s) α

-- some g[i] is not zero, and the sum of g[i]·β^i over i < n is
abbrev pub LuckyBeta : {K : Type 0} → Ops K → Claim K → K → Type 0
LuckyBeta f s β = Lucky f s.n (gate_error f s) β

-- γ^d·h(X) - h(γX) - (X^d·a(X)·b(1/X) - v·X^d), where a and b have d + 1 coefficients
abbrev pub gap : {K : Type 0} → Ops K → ℕ → (ℕ → K) → (ℕ → K) → (ℕ → K) → K → ℕ → K
gap f d h a b v k =
    sub f (sub f (f.mul (power f f.gamma d) (h k)) (f.mul (power f f.gamma k) (h k)))
    (sub f (middle f d a b k) (monomial f v d k))

-- f_M - (q·(X^N - α) + r), of m·N coefficients
abbrev pub D1 : {K : Type 0} → Ops K → Claim K → Reply K → K → ℕ → K
D1 f s p α k =
    sub f (coeff f s.matrix k) (f.add (product f (coeff f p.q) (binomial f (width s) α) k) (coeff f p.r k))

-- γ^(3n)·h1(X) - h1(γX) - X^(3n)·(r(X)·W(1/X) - f_x(α)), of 6n + 1 coefficients
abbrev pub D2 : {K : Type 0} → Ops K → Claim K → Reply K → K → ℕ → K
D2 f s p α = gap f (3 * s.n) (coeff f p.h1) (coeff f p.r) (wires f s) (value f s.vector α)

-- γ^(n-1)·h2(X) - h2(γX) - X^(n-1)·(wl(βX)·wr(1/X) - wo(β)), of 2n - 1 coefficients
abbrev pub D3 : {K : Type 0} → Ops K → Claim K → Reply K → K → ℕ → K
D3 f s p β = gap f (s.n - 1) (coeff f p.h2) (left_scaled f s β) (coeff f s.right) (value f s.out β)

-- all three are the zero polynomial
pub record AllZero {K : Type 0} (f : Ops K) (s : Claim K) (p : Reply K) (α β : K) : Type 0 where
  pub zero1 : Zero f (D1 f s p α)
  pub zero2 : Zero f (D2 f s p α)
  pub zero3 : Zero f (D3 f s p β)

-- not all three are the zero polynomial, and yet all three are zero at z
pub record LuckyZ {K : Type 0} (f : Ops K) (s : Claim K) (p : Reply K) (α β z : K) : Type 0 where
  pub off : AllZero f s p α β → ⊥
  pub hit1 : series f (s.m * width s) (D1 f s p α) z ≡ f.nil
  pub hit2 : series f (6 * s.n + 1) (D2 f s p α) z ≡ f.nil
  pub hit3 : series f (2 * s.n - 1) (D3 f s p β) z ≡ f.nil
