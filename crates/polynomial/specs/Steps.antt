-- The quotient alone.
use Rattle.std.specs.Prelude.{◌≡◌, ℕ, ◌+◌, List, map}
use Rattle.std.specs.List.{AllByRecursion}
use Rattle.field.specs.Field.{Ops}
use Rattle.algebra.specs.Polynomials.{coeff}
use Rattle.polynomial.specs.Cells.{carried}

-- q stands for the quotient of p by X^n - v: each coefficient is what the one n above it carries, and each cell is reduced
pub record Stepped {X K : Type 0} (f : Ops K) (mean : X → K) (reduced : X → Type 0) (p : List X) (v : K) (n : ℕ) (q : List X) : Type 0 where
  pub steps : (k : ℕ) → coeff f (map mean q) k ≡ carried f (map mean p) v (map mean q) (k + n)
  pub tidy : AllByRecursion reduced q
