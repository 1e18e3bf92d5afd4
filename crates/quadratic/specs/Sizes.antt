-- Which lengths and numbers of variables fit one another.
use Rattle.std.specs.Prelude.{◌≡◌, ℕ, ◌+◌, ◌*◌, ◌%◌, ◌^◌, ◌<◌, ◌≤◌, List, length}
use Rattle.quadratic.specs.Positions.{stray, unused}

-- the signature has an entry for each of v variables, and every pair names two of them
pub record Named (v : ℕ) (pairs : List (ℕ × ℕ)) (signature : ℕ) : Type 0 where
  pub signed : signature ≡ v
  pub tame : stray v pairs ≡ length pairs

-- besides, row k of 1 + v + n coefficients lies among them
pub record Stands (v : ℕ) (pairs : List (ℕ × ℕ)) (coefficients signature k : ℕ) : Type 0 where
  pub fits : Named v pairs signature
  pub within : k * (1 + v + length pairs) + (1 + v + length pairs) ≤ coefficients

-- besides, the coefficients are whole rows
pub record Exists (v : ℕ) (pairs : List (ℕ × ℕ)) (coefficients signature k : ℕ) : Type 0 where
  pub stands : Stands v pairs coefficients signature k
  pub whole : coefficients % (1 + v + length pairs) ≡ 0

-- e equations whose pairs name variables below v, each of which is in a pair, with sizes below 2^64
pub record Ready (v : ℕ) (pairs : List (ℕ × ℕ)) (coefficients e : ℕ) : Type 0 where
  pub tame : stray v pairs ≡ length pairs
  pub used : unused v pairs ≡ v
  pub full : coefficients ≡ e * (1 + v + length pairs)
  pub short : 1 + v + length pairs < 2 ^ 64
  pub narrow : 3 * length pairs + 1 < 2 ^ 64

-- the sizes of e equations in v variables with n pairs: rows of 3n + 1 cells, one for each equation and each position
pub record Shaped (v n e rows cells : ℕ) : Type 0 where
  pub rows_are : rows ≡ e + 2 * n
  pub cells_are : cells ≡ (e + 2 * n) * (3 * n + 1)
  pub short : 1 + v + n < 2 ^ 64
  pub narrow : 3 * n + 1 < 2 ^ 64
