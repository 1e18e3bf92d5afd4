-- The words of a text, each with its line.
use Rattle.std.specs.Prelude.{ℕ, ◌+◌, Bool, true, false, cond, ◌||◌, List, [], ◌∷◌, ◌++◌, ◌==◌}

-- the line of what follows a byte of line n: byte 10 ends its line
abbrev pub next_line : ℕ → ℕ → ℕ
next_line n b = cond (b == 10) (n + 1) n

-- the line of the last byte of a text that begins on line n; the empty text ends where it begins
unfoldable pub last_line : ℕ → List ℕ → ℕ
last_line n [] = n
last_line n (b ∷ []) = n
last_line n (b ∷ c ∷ bs) = last_line (next_line n b) (c ∷ bs)

-- the blanks are space, tab, carriage return and the line end
abbrev pub blank : ℕ → Bool
blank b = b == 32 || (b == 9 || (b == 13 || b == 10))

-- a text without its comments, which go from byte 35 to their line's end; `inside`: it begins inside of one
unfoldable pub bare : Bool → List ℕ → List ℕ
bare inside [] = []
bare inside (b ∷ bs) = cond (b == 10) (b ∷ bare false bs) (cond (inside || b == 35) (bare true bs) (b ∷ bare false bs))

-- a word and its line
pub record Located : Type 0 where
  pub spelling : List ℕ
  pub line : ℕ

-- a word that ends on line n: where no byte of it has come, there is none
abbrev pub ended : ℕ → List ℕ → List Located
ended n [] = []
ended n (b ∷ w) = record { spelling = b ∷ w; line = n } ∷ []

-- the words of bytes with no comment that begin on line n, where the bytes w of a word have just come
unfoldable pub words_after : ℕ → List ℕ → List ℕ → List Located
words_after n w [] = ended n w
words_after n w (b ∷ bs) = cond (blank b) (ended n w ++ words_after (next_line n b) [] bs) (words_after n (w ++ b ∷ []) bs)

-- the words of a text, whose first line is 1
unfoldable pub words : List ℕ → List Located
words text = words_after 1 [] (bare false text)
