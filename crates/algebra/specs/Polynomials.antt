-- Polynomials as lists of coefficients, the lowest exponent first. As a function of the exponent
-- a polynomial has a coefficient at every exponent, zero from some point on.
use Rattle.std.specs.Prelude.{◌≡◌, ℕ, suc, ◌+◌, ◌-◌, ◌*◌, cond, List, map, length, ◌==◌, slice_index_or}
use Rattle.std.specs.List.{range_with_len}
use Rattle.field.specs.Field.{Ops, power}
use Rattle.algebra.specs.Sums.{sum, sub}

-- the coefficient of X^i; a missing one is zero
abbrev pub coeff : {K : Type 0} → Ops K → List K → ℕ → K
coeff f p i = slice_index_or p i f.nil

-- the value at x: the sum of p[i]·x^i
abbrev pub value : {K : Type 0} → Ops K → List K → K → K
value f p x = sum f (length p) (λ i. f.mul (coeff f p i) (power f x i))

-- the coefficients of v·X^n
abbrev pub monomial : {K : Type 0} → Ops K → K → ℕ → ℕ → K
monomial f v n i = cond (i == n) v f.nil

-- the coefficients of X^n - v
abbrev pub binomial : {K : Type 0} → Ops K → ℕ → K → ℕ → K
binomial f n v i = sub f (monomial f f.one n i) (monomial f v 0 i)

-- the coefficient of X^k in the product of a and b: the sum of a[i]·b[k - i] over i ≤ k
abbrev pub product : {K : Type 0} → Ops K → (ℕ → K) → (ℕ → K) → ℕ → K
product f a b k = sum f (suc k) (λ i. f.mul (a i) (b (k - i)))

-- p = q·(X^n - v) + r, at every coefficient
abbrev pub Divides : {K : Type 0} → Ops K → List K → ℕ → K → List K → List K → Type 0
Divides f p n v q r = (k : ℕ) → coeff f p k ≡ f.add (product f (coeff f q) (binomial f n v) k) (coeff f r k)

-- entry k of the middle product of a and b, of d + 1 entries each: the sum of a[i]·b[j] over i, j ≤ d with d + i - j = k
abbrev pub middle : {K : Type 0} → Ops K → ℕ → (ℕ → K) → (ℕ → K) → ℕ → K
middle f d a b k = sum f (suc d) (λ j. sum f (suc d) (λ i. cond (d + i == k + j) (f.mul (a i) (b j)) f.nil))

-- the middle product of two lists of d + 1 entries, of 2d + 1 entries
abbrev pub middle_list : {K : Type 0} → Ops K → ℕ → List K → List K → List K
middle_list f d a b = map (middle f d (coeff f a) (coeff f b)) (range_with_len 0 (2 * d + 1))
