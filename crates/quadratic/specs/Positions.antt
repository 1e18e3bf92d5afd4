-- The wire positions: 0 to n - 1 on the left, n to 2n - 1 on the right, and the variable that each one carries.
use Rattle.std.specs.Prelude.{ℕ, ◌*◌, Bool, not, ◌&&◌, List, ◌++◌, map, length, nat_eq, nat_lt, slice_index}
use Rattle.std.specs.List.{position_or_len, range_with_len}

-- the first place of a list at which a test is true; its length where there is none
abbrev pub first_where : {A : Type 0} → (A → Bool) → List A → ℕ
first_where test xs = position_or_len test xs

-- the variables by position: the first of each pair, then the second of each pair
abbrev pub names : List (ℕ × ℕ) → List ℕ
names pairs = map (λ (q : ℕ × ℕ). q.0) pairs ++ map (λ (q : ℕ × ℕ). q.1) pairs

-- the variable at position p
abbrev pub name_at : List (ℕ × ℕ) → ℕ → ℕ
name_at pairs p = slice_index (names pairs) p

-- the first position whose variable is i; 2n where i is in no pair
abbrev pub first : List (ℕ × ℕ) → ℕ → ℕ
first pairs i = first_where (nat_eq i) (names pairs)

-- the first pair that names a variable which is not below v; n where each names two that are
abbrev pub stray : ℕ → List (ℕ × ℕ) → ℕ
stray v pairs = first_where (λ (q : ℕ × ℕ). not (nat_lt q.0 v && nat_lt q.1 v)) pairs

-- the first variable below v that is in no pair; v where each is in one
abbrev pub unused : ℕ → List (ℕ × ℕ) → ℕ
unused v pairs = first_where (λ i. nat_eq (first pairs i) (2 * length pairs)) (range_with_len 0 v)
