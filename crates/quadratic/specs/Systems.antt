-- A system of quadratic equations over a field, and which signatures solve it.
use Rattle.std.specs.Prelude.{◌≡◌, ℕ, ◌+◌, ◌*◌, ◌<◌, List, map, length, slice_index_or}
use Rattle.field.specs.Field.{Ops}
use Rattle.algebra.specs.Sums.{sum}
use Rattle.algebra.specs.Polynomials.{coeff}
use Rattle.quadratic.specs.declared.system.System.{System as LentSystem}

-- v variables, n pairs of variables to multiply, and for each equation a row of 1 + v + n coefficients
pub record System (K : Type 0) : Type 0 where
  pub variables : ℕ
  pub pairs : List (ℕ × ℕ)
  pub coefficients : List K

-- the system whose coefficients the values stand for
abbrev pub system_of : {X K : Type 0} → (X → K) → ℕ → List (ℕ × ℕ) → List X → System K
system_of mean variables pairs coefficients = record {
  variables = variables;
  pairs = pairs;
  coefficients = map mean coefficients;
}

-- the same of a system whose lists are lent
abbrev pub system_in : {X K : Type 0} → (X → K) → LentSystem X → System K
system_in mean s = system_of mean s.variables s.pairs.now s.coefficients.now

-- n, the number of pairs
abbrev pub gates : {K : Type 0} → System K → ℕ
gates s = length s.pairs

-- 1 + v + n, the coefficients of an equation
abbrev pub terms : {K : Type 0} → System K → ℕ
terms s = 1 + s.variables + gates s

-- c[k][j]
abbrev pub term : {K : Type 0} → Ops K → System K → ℕ → ℕ → K
term f s k j = coeff f s.coefficients (k * terms s + j)

-- s[i_g]·s[j_g]
abbrev pub product : {K : Type 0} → Ops K → List (ℕ × ℕ) → List K → ℕ → K
product f pairs signature g = f.mul (coeff f signature (slice_index_or pairs g (0, 0)).0) (coeff f signature (slice_index_or pairs g (0, 0)).1)

-- the sum of c[k][1 + i]·s[i] over the variables
abbrev pub linear : {K : Type 0} → Ops K → System K → List K → ℕ → K
linear f s signature k = sum f s.variables (λ i. f.mul (term f s k (1 + i)) (coeff f signature i))

-- the sum of c[k][1 + v + g]·s[i_g]·s[j_g] over the pairs
abbrev pub quadratic : {K : Type 0} → Ops K → System K → List K → ℕ → K
quadratic f s signature k = sum f (gates s) (λ g. f.mul (term f s k (1 + s.variables + g)) (product f s.pairs signature g))

-- the right side of equation k: its constant, its linear and its quadratic part
abbrev pub right_side : {K : Type 0} → Ops K → System K → List K → ℕ → K
right_side f s signature k = f.add (term f s k 0) (f.add (linear f s signature k) (quadratic f s signature k))

-- every equation holds: y[k] is the right side of equation k
abbrev pub Solves : {K : Type 0} → Ops K → System K → List K → List K → Type 0
Solves f s signature y = (k : ℕ) → k < length y → coeff f y k ≡ right_side f s signature k
