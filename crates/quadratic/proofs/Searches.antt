-- The first place of a list at which a test is true, and the variables by position.
use Rattle.std.proofs.Common.{◌≡◌, ℕ, ◌+◌, ◌-◌, ◌*◌, ◌<◌, ◌≤◌, Bool, true, cond, not, ◌&&◌, ◌||◌, eqb, ltb, List, [], ◌∷◌, map, length, get_or, is_some, Some, None, sym, refl, ap, ◌∙◌, arith}
use Rattle.std.proofs.lemmas.List.{length-append, length-map, get_or-map, get_or_append_left, get_or-append_right}
use Rattle.std.proofs.lemmas.List.Folds.{prefix_len-append}
use Rattle.std.specs.List.{All, list_any, position, prefix_len, range_with_len, slice_get}
use Rattle.std.proofs.lemmas.List.FromFn.{length-range_with_len, get_or-range_with_len}
use Rattle.std.proofs.lemmas.Option.{gets}
use Rattle.std.proofs.lemmas.List.Sums.{prefix_len-le-length, fails_before_first, passes_at_first}
use Rattle.std.proofs.lemmas.Bool.Decides.{nat_tests}
use Rattle.std.proofs.lemmas.Bool.{eqb-true, eq-eqb}
use Rattle.quadratic.specs.Positions.{first_where, names, name_at, first, stray}
use Rattle.quadratic.specs.Refusals.{found}

module _ {A : Type 0} (test : A → Bool) where
  pub first_le : (xs : List A) → first_where test xs ≤ length xs
  first_le xs = prefix_len-le-length (λ x. not (test x)) xs

  -- it is not past a place where the test is true
  pub first_upto : (xs : List A) (d : A) (k : ℕ) → test (get_or xs k d) ≡ true → first_where test xs ≤ k
  first_upto xs d k t = let before = fails_before_first test xs k d in grind arith

-- the number p of those below n, or none
pub slice_get-range : (n p : ℕ) → slice_get (range_with_len 0 n) p ≡ found n p
slice_get-range n p =
    let long = length-range_with_len 0 n in
    grind (arith, nat_tests, gets, get_or-range_with_len)

-- how far a test passes in a list that was read off another
prefix_len-map : {A B : Type 0} (test : B → Bool) (h : A → B) (xs : List A) → prefix_len test (map h xs) ≡ prefix_len (λ x. test (h x)) xs
prefix_len-map test h [] = refl
prefix_len-map test h (x ∷ xs) = ap (λ k. cond (test (h x)) (1 + k) 0) (prefix_len-map test h xs)

-- whether no pair has the variable: no left side and no right side is it
unmet : (i : ℕ) (pairs : List (ℕ × ℕ)) → not (list_any (λ (q : ℕ × ℕ). eqb i q.0 || eqb i q.1) pairs)
    ≡ (eqb (first_where (λ (q : ℕ × ℕ). eqb i q.0) pairs) (length pairs) && eqb (first_where (λ (q : ℕ × ℕ). eqb i q.1) pairs) (length pairs))
unmet i [] = refl
unmet i (q ∷ qs) = let h = unmet i qs in grind (arith, nat_tests)

module _ (pairs : List (ℕ × ℕ)) where
  pub length_names : length (names pairs) ≡ 2 * length pairs
  length_names =
      omega (arith, length-append (map (λ (q : ℕ × ℕ). q.0) pairs) (map (λ (q : ℕ × ℕ). q.1) pairs), length-map pairs (λ (q : ℕ × ℕ). q.0), length-map pairs (λ (q : ℕ × ℕ). q.1))

  pub name_left : (p : ℕ) → p < length pairs → name_at pairs p ≡ (get_or pairs p (0, 0)).0
  name_left p h =
      get_or_append_left (map (λ (q : ℕ × ℕ). q.0) pairs) (map (λ (q : ℕ × ℕ). q.1) pairs) 0 p (omega (arith, length-map pairs (λ (q : ℕ × ℕ). q.0)))
      ∙ get_or-map (λ (q : ℕ × ℕ). q.0) pairs p (0, 0) 0 h

  pub name_right : (p g : ℕ) → length pairs + g ≡ p → g < length pairs → name_at pairs p ≡ (get_or pairs g (0, 0)).1
  name_right p g e h =
      let back : p - length pairs ≡ g = omega arith in
      get_or-append_right (map (λ (q : ℕ × ℕ). q.0) pairs) (map (λ (q : ℕ × ℕ). q.1) pairs) (length pairs) p 0 (length-map pairs (λ (q : ℕ × ℕ). q.0)) (omega arith)
      ∙ ap (λ k. get_or (map (λ (q : ℕ × ℕ). q.1) pairs) k 0) back ∙ get_or-map (λ (q : ℕ × ℕ). q.1) pairs g (0, 0) 0 h

  -- the first position of a variable, by the first pair that has it on the left, and the first that has it on the right
  pub first_by_sides : (i : ℕ) → first pairs i ≡ cond (eqb (first_where (λ (q : ℕ × ℕ). eqb i q.0) pairs) (length pairs)) (length pairs + first_where (λ (q : ℕ × ℕ). eqb i q.1) pairs) (first_where (λ (q : ℕ × ℕ). eqb i q.0) pairs)
  first_by_sides i =
      let test = λ (x : ℕ). not (eqb i x) in
      rw (prefix_len-append test (map (λ (q : ℕ × ℕ). q.0) pairs) (map (λ (q : ℕ × ℕ). q.1) pairs), prefix_len-map test (λ (q : ℕ × ℕ). q.0) pairs, prefix_len-map test (λ (q : ℕ × ℕ). q.1) pairs, length-map pairs (λ (q : ℕ × ℕ). q.0)) refl

  -- a search through the left sides, and one through the right sides where that found none
  pub found_left : (i g : ℕ) → position (λ (q : ℕ × ℕ). eqb i q.0) pairs ≡ Some g → Some g ≡ position (eqb i) (names pairs)
  found_left i g l =
      let sides = first_by_sides i in
      let long = length_names in
      grind (arith, nat_tests)

  pub found_right : (i g : ℕ) → position (λ (q : ℕ × ℕ). eqb i q.0) pairs ≡ None → position (λ (q : ℕ × ℕ). eqb i q.1) pairs ≡ Some g → Some (length pairs + g) ≡ position (eqb i) (names pairs)
  found_right i g l r =
      let upto = first_le (λ (q : ℕ × ℕ). eqb i q.0) pairs in
      let sides = first_by_sides i in
      let long = length_names in
      grind (arith, nat_tests)

  pub found_neither : (i : ℕ) → position (λ (q : ℕ × ℕ). eqb i q.0) pairs ≡ None → position (λ (q : ℕ × ℕ). eqb i q.1) pairs ≡ None → None ≡ position (eqb i) (names pairs)
  found_neither i l r =
      let upto = first_le (λ (q : ℕ × ℕ). eqb i q.0) pairs in
      let sides = first_by_sides i in
      let long = length_names in
      grind (arith, nat_tests)

  -- the first position of a variable carries it
  pub first_carries : (i : ℕ) → first pairs i < 2 * length pairs → name_at pairs (first pairs i) ≡ i
  first_carries i h = sym (eqb-true i (name_at pairs (first pairs i)) (passes_at_first (eqb i) (names pairs) 0 (omega (arith, length_names))))

  -- the variable of a position has its first position there or before
  pub first_of_name : (p : ℕ) → p < 2 * length pairs → first pairs (name_at pairs p) ≤ p
  first_of_name p h = first_upto (eqb (name_at pairs p)) (names pairs) 0 p (eq-eqb (name_at pairs p) (name_at pairs p) refl)

  -- where no pair is stray, each names two variables below v
  pub named_all : (v : ℕ) → stray v pairs ≡ length pairs → All (λ (q : ℕ × ℕ). (q.0 < v) × (q.1 < v)) pairs
  named_all v e g d h =
      let here = fails_before_first (λ (q : ℕ × ℕ). not (ltb q.0 v && ltb q.1 v)) pairs g d (omega arith) in
      (grind (arith, nat_tests), grind (arith, nat_tests))

  -- then the variable of each position is below v
  pub name_below : (v : ℕ) → stray v pairs ≡ length pairs → (p : ℕ) → p < 2 * length pairs → name_at pairs p < v
  name_below v e p h =
      let left = named_all v e p (0, 0) in
      let right = named_all v e (p - length pairs) (0, 0) in
      grind (arith, name_left, name_right p (p - length pairs))

  -- no pair names a variable that has no position
  pub unplaced : (i : ℕ) → not (is_some (position (eqb i) (names pairs))) ≡ eqb (first pairs i) (2 * length pairs)
  unplaced i =
      let upto = first_le (eqb i) (names pairs) in
      let long = length_names in
      grind (arith, nat_tests)

  -- the same by the pairs themselves
  pub unpaired : (i : ℕ) → not (list_any (λ (q : ℕ × ℕ). eqb i q.0 || eqb i q.1) pairs) ≡ eqb (first pairs i) (2 * length pairs)
  unpaired i =
      let sides = first_by_sides i in
      let left = first_le (λ (q : ℕ × ℕ). eqb i q.0) pairs in
      let right = first_le (λ (q : ℕ × ℕ). eqb i q.1) pairs in
      let both = unmet i pairs in
      grind (arith, nat_tests)

  -- the search for the variable of a position finds one
  pub placed : (i p : ℕ) → p < 2 * length pairs → i ≡ name_at pairs p → position (eqb i) (names pairs) ≡ Some (first pairs i)
  placed i p h e =
      let l = first_upto (eqb i) (names pairs) 0 p (eq-eqb i (name_at pairs p) e) in
      let long = length_names in
      grind (arith, nat_tests)
