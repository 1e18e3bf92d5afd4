-- A refusal as it is told.
use Rattle.std.specs.Prelude.{ℕ, List}

-- a refusal's number with the values that it tells
abbrev pub Told : Type 0
Told = ℕ × List ℕ
