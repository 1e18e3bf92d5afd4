-- Which lengths fit one another.
use Rattle.std.specs.Prelude.{◌≡◌, ℕ, ◌+◌, ◌*◌, ◌%◌, ◌<◌}

-- a dividend of p entries is rows of r entries, r above 0, and the quotient has q entries, one row less
pub record RowsFit (p q r : ℕ) : Type 0 where
  pub some : 0 < r
  pub row_less : q + r ≡ p
  pub whole : q % r ≡ 0

-- lists of a and b entries have the same number d + 1, and their middle product has c = 2d + 1 entries
pub record MiddleFits (a b c : ℕ) : Type 0 where
  pub alike : a ≡ b
  pub double : c + 1 ≡ 2 * a
