-- The cells of an equation's row: at most one term falls on each.
use Rattle.std.proofs.Common.{◌≡◌, ℕ, ◌+◌, ◌*◌, ◌<◌, ◌≤◌, false, eqb, List, length, sym, ap, ◌∙◌, ap₂, zero-add, arith}
use Rattle.std.specs.List.{range_with_len}
use Rattle.std.proofs.lemmas.List.FromFn.{get_or-range_with_len}
use Rattle.std.proofs.lemmas.List.Sums.{fails_before_first}
use Rattle.std.proofs.lemmas.Bool.Decides.{nat_tests}
use Rattle.field.specs.Field.{Ops, Laws}
use Rattle.field.proofs.Ring as R
use Rattle.algebra.specs.Sums.{sum}
use Rattle.algebra.specs.Polynomials.{monomial}
use Rattle.algebra.proofs.Sums as S
use Rattle.quadratic.specs.Systems.{System, gates, term}
use Rattle.quadratic.specs.Positions.{names, name_at, first, unused}
use Rattle.quadratic.specs.Encodings.{equation_cell}
use Rattle.quadratic.proofs.Searches.{first_le, first_carries, length_names}
use Rattle.quadratic.proofs.Spreads.{monomial_at, monomial_off}

-- where no variable is unused, each has a first position
pub used_all : (v : ℕ) (pairs : List (ℕ × ℕ)) → unused v pairs ≡ v → (i : ℕ) → i < v → first pairs i < 2 * length pairs
used_all v pairs e i h =
    let test = λ (k : ℕ). eqb (first pairs k) (2 * length pairs) in
    let off : eqb (first pairs i) (2 * length pairs) ≡ false = sym (ap test (get_or-range_with_len 0 v i 0 h ∙ zero-add i)) ∙ fails_before_first test (range_with_len 0 v) i 0 (omega arith) in
    let upto = first_le (eqb i) (names pairs) in
    let long = length_names pairs in
    grind (arith, nat_tests)

module _ {K : Type 0} (f : Ops K) (laws : Laws f) (s : System K) (whole : unused s.variables s.pairs ≡ s.variables) (k : ℕ) where
  open f use {nil, add as ◌⊞◌}
  open laws use {add_nil}

  infixl 60 ◌⊞◌
  abbrev linear_cell : ℕ → K
  linear_cell j = sum f s.variables (λ i. monomial f (term f s k (1 + i)) (1 + first s.pairs i) j)

  abbrev quadratic_cell : ℕ → K
  quadratic_cell j = sum f (gates s) (λ g. monomial f (term f s k (1 + s.variables + g)) (1 + 2 * gates s + g) j)

  no_linear : (j : ℕ) → ((i : ℕ) → i < s.variables → j ≡ 1 + first s.pairs i → ⊥) → linear_cell j ≡ nil
  no_linear j none =
      S.sum_nil f laws s.variables (λ i. monomial f (term f s k (1 + i)) (1 + first s.pairs i) j)
      (λ i l. monomial_off f (term f s k (1 + i)) (1 + first s.pairs i) j (none i l))

  no_quadratic : (j : ℕ) → j ≤ 2 * gates s → quadratic_cell j ≡ nil
  no_quadratic j h =
      S.sum_nil f laws (gates s) (λ g. monomial f (term f s k (1 + s.variables + g)) (1 + 2 * gates s + g) j)
      (λ g l. monomial_off f (term f s k (1 + s.variables + g)) (1 + 2 * gates s + g) j (λ e. omega arith))

  pub constant_cell : equation_cell f s k 0 ≡ term f s k 0
  constant_cell =
      ap₂ ◌⊞◌ (monomial_at f (term f s k 0) 0) (ap₂ ◌⊞◌ (no_linear 0 (λ i l e. omega arith)) (no_quadratic 0 (omega arith)) ∙ add_nil nil) ∙ add_nil (term f s k 0)

  -- the rest of a row, where the constant does not fall
  past : (j : ℕ) → 0 < j → equation_cell f s k j ≡ linear_cell j ⊞ quadratic_cell j
  past j h = ap (λ x. x ⊞ (linear_cell j ⊞ quadratic_cell j)) (monomial_off f (term f s k 0) 0 j (λ e. omega arith)) ∙ R.nil_add f laws (linear_cell j ⊞ quadratic_cell j)

  pub output_cell : (j g : ℕ) → j ≡ 1 + 2 * gates s + g → g < gates s → equation_cell f s k j ≡ term f s k (1 + s.variables + g)
  output_cell j g e h =
      past j (omega arith)
      ∙ ap₂ ◌⊞◌ (no_linear j (λ i l o. omega (arith, used_all s.variables s.pairs whole i l)))
      (S.sum_one f laws (gates s) g (λ g. monomial f (term f s k (1 + s.variables + g)) (1 + 2 * gates s + g) j) h
      (λ i l o. monomial_off f (term f s k (1 + s.variables + i)) (1 + 2 * gates s + i) j (λ q. o (omega arith)))
      ∙ ap (λ c. monomial f (term f s k (1 + s.variables + g)) c j) (sym e) ∙ monomial_at f (term f s k (1 + s.variables + g)) j)
      ∙ R.nil_add f laws (term f s k (1 + s.variables + g))

  -- a column of position p, whose variable is i
  module _ (j p i : ℕ) (at : j ≡ 1 + p) (within : p < 2 * gates s) (carries : i ≡ name_at s.pairs p) where
    -- only i can have its first position there
    only : (h : ℕ) → h < s.variables → j ≡ 1 + first s.pairs h → h ≡ i
    only h l e =
        let same : first s.pairs h ≡ p = omega arith in
        sym (first_carries s.pairs h (used_all s.variables s.pairs whole h l)) ∙ ap (name_at s.pairs) same ∙ sym carries

    pub first_cell : i < s.variables → first s.pairs i ≡ p → equation_cell f s k j ≡ term f s k (1 + i)
    first_cell l e =
        let col : 1 + first s.pairs i ≡ j = omega arith in
        past j (omega arith)
        ∙ ap₂ ◌⊞◌
        (S.sum_one f laws s.variables i (λ h. monomial f (term f s k (1 + h)) (1 + first s.pairs h) j) l
        (λ h m o. monomial_off f (term f s k (1 + h)) (1 + first s.pairs h) j (λ q. o (only h m q)))
        ∙ ap (λ c. monomial f (term f s k (1 + i)) c j) col ∙ monomial_at f (term f s k (1 + i)) j)
        (no_quadratic j (omega arith))
        ∙ add_nil (term f s k (1 + i))

    pub later_cell : (first s.pairs i ≡ p → ⊥) → equation_cell f s k j ≡ nil
    later_cell apart =
        past j (omega arith)
        ∙ ap₂ ◌⊞◌
        (no_linear j (λ h l e. let same : first s.pairs h ≡ p = omega arith in apart (ap (first s.pairs) (sym (only h l e)) ∙ same)))
        (no_quadratic j (omega arith))
        ∙ add_nil nil
