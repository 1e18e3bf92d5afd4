-- Which number a word spells.
use Rattle.std.specs.Prelude.{ℕ, ◌+◌, ◌-◌, ◌*◌, ◌^◌, min, Bool, cond, ◌&&◌, List, [], ◌∷◌, take, drop, Some, None, codes, Option, nat_le, nat_lt}
use Rattle.std.specs.Str.{bytes_eq}

-- low ≤ b ≤ high
abbrev pub between : ℕ → ℕ → ℕ → Bool
between low high b = nat_le low b && nat_le b high

-- a number that is below the base
abbrev pub below_base : ℕ → ℕ → Option ℕ
below_base base v = cond (nat_lt v base) (Some v) None

-- the number of a digit of the base: 0 to 9, and a to f or A to F for 10 to 15; any other byte is no digit
abbrev pub digit_value : ℕ → ℕ → Option ℕ
digit_value base b =
    cond (between 48 57 b) (below_base base (b - 48))
    (cond (between 97 102 b) (below_base base (b - 87))
    (cond (between 65 70 b) (below_base base (b - 55)) None))

-- where there is a digit, what depends on it
abbrev pub with_digit : Option ℕ → (ℕ → Option ℕ) → Option ℕ
with_digit None f = None
with_digit (Some d) f = f d

-- what digits spell in a base after digits that spell v
unfoldable pub spelled_after : ℕ → ℕ → List ℕ → Option ℕ
spelled_after base v [] = Some v
spelled_after base v (b ∷ bs) = with_digit (digit_value base b) (λ d. spelled_after base (v * base + d) bs)

-- what one or more digits spell in a base
unfoldable pub spelled : ℕ → List ℕ → Option ℕ
spelled base [] = None
spelled base (b ∷ bs) = spelled_after base 0 (b ∷ bs)

-- the number that a word spells: hexadecimal digits after 0x, else decimal digits
unfoldable pub number_of : List ℕ → Option ℕ
number_of w = cond (bytes_eq (take 2 w) (codes "0x")) (spelled 16 (drop 2 w)) (spelled 10 w)

-- a number as far as it matters: 2 ^ 32 stands for all that are not below it
abbrev pub capped : Option ℕ → Option ℕ
capped None = None
capped (Some v) = Some (min v (2 ^ 32))
