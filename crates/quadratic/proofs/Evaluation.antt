-- A right side, from the row of its equation.
use Rattle.std.proofs.Common.{◌≡◌, ℕ, ◌+◌, ◌-◌, ◌*◌, ◌<◌, ◌≤◌, List, map, length, slice_range, refl, ap, ◌∙◌, ap₂, arith}
use Rattle.std.proofs.lemmas.List.{take-map, drop-map, get_or-take, get_or-drop}
use Rattle.std.proofs.lemmas.List.Edits.{length-between}
use Rattle.field.specs.Field.{Ops, Laws}
use Rattle.algebra.specs.Sums.{sum}
use Rattle.algebra.specs.Polynomials.{coeff}
use Rattle.algebra.proofs.Sums.{sum_ext}
use Rattle.quadratic.specs.Systems.{system_of, term, product, right_side}

-- the coefficients of a part
coeff-slice_range : {X K : Type 0} (f : Ops K) (mean : X → K) (xs : List X) (i j k : ℕ) → i + k < j → coeff f (map mean (slice_range xs i j)) k ≡ coeff f (map mean xs) (i + k)
coeff-slice_range f mean xs i j k h =
    let l : k < j - i = omega arith in
    rw (← take-map mean (j - i), ← drop-map mean i xs, get_or-take (j - i) _ k f.nil l, get_or-drop i (map mean xs) k f.nil) refl

-- a row of t coefficients has t
pub length-row : {X : Type 0} (coefficients row : List X) (k t : ℕ) → row ≡ slice_range coefficients (k * t) (k * t + t) → k * t + t ≤ length coefficients → length row ≡ t
length-row coefficients row k t is within = omega (arith, ap length is, length-between coefficients (k * t) (k * t + t) within)

module _ {X K : Type 0} (f : Ops K) (laws : Laws f) (mean : X → K) (v : ℕ) (pairs : List (ℕ × ℕ)) (coefficients row : List X) (k : ℕ)
    (is : row ≡ slice_range coefficients (k * (1 + v + length pairs)) (k * (1 + v + length pairs) + (1 + v + length pairs))) (long : length row ≡ 1 + v + length pairs) where
  row_term : (j : ℕ) → j < 1 + v + length pairs → coeff f (map mean row) j ≡ term f (system_of mean v pairs coefficients) k j
  row_term j h =
      let b = k * (1 + v + length pairs) in
      ap (λ (xs : List X). coeff f (map mean xs) j) is ∙ coeff-slice_range f mean coefficients b (b + (1 + v + length pairs)) j (omega arith)

  part_term : (i j g : ℕ) → i + g < j → j ≤ 1 + v + length pairs → coeff f (map mean (slice_range row i j)) g ≡ term f (system_of mean v pairs coefficients) k (i + g)
  part_term i j g h l = coeff-slice_range f mean row i j g h ∙ row_term (i + g) (omega arith)

  pub evaluated : (signature : List X) (constant linear quadratic : K) → constant ≡ coeff f (map mean row) 0
      → linear ≡ sum f v (λ i. f.mul (coeff f (map mean (slice_range row 1 (1 + v))) i) (coeff f (map mean signature) i))
      → quadratic ≡ sum f (length pairs) (λ g. f.mul (coeff f (map mean (slice_range row (1 + v) (length row))) g) (product f pairs (map mean signature) g))
      → f.add constant (f.add linear quadratic) ≡ right_side f (system_of mean v pairs coefficients) (map mean signature) k
  evaluated signature constant linear quadratic ec el eq =
      let s = system_of mean v pairs coefficients in
      let xs = map mean signature in
      ap₂ f.add (ec ∙ row_term 0 (omega arith))
      (ap₂ f.add
      (el ∙ sum_ext f laws v _ (λ i. f.mul (term f s k (1 + i)) (coeff f xs i)) (λ i h. ap (λ x. f.mul x (coeff f xs i)) (part_term 1 (1 + v) i (omega arith) (omega arith))))
      (eq ∙ sum_ext f laws (length pairs) _ (λ g. f.mul (term f s k (1 + v + g)) (product f pairs xs g)) (λ g h. ap (λ x. f.mul x (product f pairs xs g)) (part_term (1 + v) (length row) g (omega arith) (omega arith)))))
