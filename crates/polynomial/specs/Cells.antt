-- What is said of the cells of a slice of field values.
use Rattle.std.specs.Prelude.{◌≡◌, ℕ, List, [], ◌∷◌, map, length}
use Rattle.std.specs.List.{AllByRecursion}
use Rattle.field.specs.Field.{Ops}
use Rattle.algebra.specs.Polynomials.{Divides, coeff}

-- the cells stand for the elements ks, one by one, and each is reduced
pub record Cells {X K : Type 0} (mean : X → K) (reduced : X → Type 0) (xs : List X) (ks : List K) : Type 0 where
  pub means : map mean xs ≡ ks
  pub tidy : AllByRecursion reduced xs

-- q and r stand for quotient and remainder of p by X^n - v, where r has n entries, and each cell is reduced
pub record Divided {X K : Type 0} (f : Ops K) (mean : X → K) (reduced : X → Type 0) (p : List X) (v : K) (q r : List X) : Type 0 where
  pub divides : Divides f (map mean p) (length r) v (map mean q) (map mean r)
  pub quotient_tidy : AllByRecursion reduced q
  pub remainder_tidy : AllByRecursion reduced r

-- p[k] + v·q[k], with which synthetic division goes on
abbrev pub carried : {K : Type 0} → Ops K → List K → K → List K → ℕ → K
carried f p v q k = f.add (coeff f p k) (f.mul v (coeff f q k))

-- the sum of a[i]·b[i], up to the end of the shorter
abbrev pub inner : {K : Type 0} → Ops K → List K → List K → K
inner f [] b = f.nil
inner f (x ∷ a) [] = f.nil
inner f (x ∷ a) (y ∷ b) = f.add (f.mul x y) (inner f a b)
