-- The encoded claim is true exactly if the signature solves the system.
use Rattle.std.proofs.Common.{◌≡◌, ℕ, ◌+◌, ◌-◌, ◌*◌, ◌<◌, ◌≤◌, cond, List, [], ◌∷◌, length, sym, refl, ap, ◌∙◌, ap₂, arith}
use native.Mathlib.Decide.{dec_lt}
use Rattle.std.proofs.lemmas.List.FromFn.{get_or-map-range_with_len}
use Rattle.std.proofs.lemmas.Bool.{lt-ltb, le-ltb}
use Rattle.field.specs.Field.{Ops, Laws}
use Rattle.field.proofs.Ring as R
use Rattle.field.proofs.Solve.{ring, ◌⊕◌, ◌⊗◌, ⊖◌, nul, uni, v0}
use Rattle.algebra.specs.Sums.{sum}
use Rattle.algebra.specs.Polynomials.{coeff, monomial}
use Rattle.algebra.specs.Relation.{wires, row, gate_error}
use Rattle.algebra.proofs.Sums as S
use Rattle.quadratic.specs.Systems.{System, gates, term, product, right_side}
use Rattle.quadratic.specs.Positions.{name_at, first}
use Rattle.quadratic.specs.Encodings.{equation_cell, tie_cell, cell, carried, encoded, Faithful}
use Rattle.quadratic.proofs.Searches.{first_carries, first_of_name, name_left, name_right}
use Rattle.quadratic.proofs.Spreads.{spread_add, spread_one, spread_many}
use Rattle.quadratic.proofs.Wires.{wire_at, out_at, matrix_at, vector_low, vector_high}

module _ {K : Type 0} (f : Ops K) (laws : Laws f) (s : System K) (signature y : List K) where
  open f use {nil, one, add as ◌⊞◌, mul as ◌⊠◌, neg}

  infixl 60 ◌⊞◌
  infixl 70 ◌⊠◌
  -- a row of the matrix times the wires, by its cells
  by_cells : (i : ℕ) → i < length y + 2 * gates s → (c : ℕ → K) → ((j : ℕ) → cell f s (length y) i j ≡ c j)
      → row f (encoded f s signature y) i ≡ sum f (3 * gates s + 1) (λ j. c j ⊠ wires f (encoded f s signature y) j)
  by_cells i h c e =
      let width = 3 * gates s + 1 in
      let w = wires f (encoded f s signature y) in
      S.sum_ext f laws width (λ j. coeff f (encoded f s signature y).matrix (i * width + j) ⊠ w j) (λ j. c j ⊠ w j)
      (λ j l. ap (λ x. x ⊠ w j) (matrix_at f s signature y i j h l ∙ e j))

  -- the row of an equation is its right side
  equation_row : ((i : ℕ) → i < s.variables → first s.pairs i < 2 * gates s)
      → (k : ℕ) → k < length y → row f (encoded f s signature y) k ≡ right_side f s signature k
  equation_row used k h =
      let n = gates s in
      let v = s.variables in
      let width = 3 * n + 1 in
      let w = wires f (encoded f s signature y) in
      let b = λ (i : ℕ). term f s k (1 + i) in
      let d = λ (g : ℕ). term f s k (1 + v + g) in
      let at = λ (i : ℕ). 1 + first s.pairs i in
      let out = λ (g : ℕ). 1 + 2 * n + g in
      let lin = λ (j : ℕ). sum f v (λ i. monomial f (b i) (at i) j) in
      let quad = λ (j : ℕ). sum f n (λ g. monomial f (d g) (out g) j) in
      by_cells k (omega arith) (equation_cell f s k) (λ j. ap (λ t. cond t (equation_cell f s k j) (tie_cell f s.pairs (k - length y) j)) (lt-ltb k (length y) h))
      ∙ spread_add f laws width (λ j. monomial f (term f s k 0) 0 j) (λ j. lin j ⊞ quad j) w
      ∙ ap₂ ◌⊞◌ (spread_one f laws width (term f s k 0) 0 w (omega arith) ∙ laws.mul_one (term f s k 0))
      (spread_add f laws width lin quad w
      ∙ ap₂ ◌⊞◌
      (spread_many f laws width v b at w (λ i l. omega (arith, used i l))
      ∙ S.sum_ext f laws v (λ i. b i ⊠ w (at i)) (λ i. b i ⊠ coeff f signature i)
      (λ i l. ap (λ x. b i ⊠ x) (wire_at f s signature y (first s.pairs i) (used i l) ∙ ap (coeff f signature) (first_carries s.pairs i (used i l)))))
      (spread_many f laws width n d out w (λ g l. omega arith)
      ∙ S.sum_ext f laws n (λ g. d g ⊠ w (out g)) (λ g. d g ⊠ product f s.pairs signature g) (λ g l. ap (λ x. d g ⊠ x) (out_at f s signature y g l))))

  -- the row of a position is zero
  tie_row : (i : ℕ) → length y ≤ i → i < length y + 2 * gates s → row f (encoded f s signature y) i ≡ nil
  tie_row i l h =
      let n = gates s in
      let width = 3 * n + 1 in
      let w = wires f (encoded f s signature y) in
      let p = i - length y in
      let q = first s.pairs (name_at s.pairs p) in
      let x = carried f s.pairs signature p in
      let below : q ≤ p = first_of_name s.pairs p (omega arith) in
      by_cells i h (tie_cell f s.pairs p) (λ j. ap (λ t. cond t (equation_cell f s i j) (tie_cell f s.pairs p j)) (le-ltb i (length y) l))
      ∙ spread_add f laws width (λ j. monomial f one (1 + p) j) (λ j. monomial f (neg one) (1 + q) j) w
      ∙ ap₂ ◌⊞◌ (spread_one f laws width one (1 + p) w (omega arith) ∙ ap (λ z. one ⊠ z) (wire_at f s signature y p (omega arith)))
      (spread_one f laws width (neg one) (1 + q) w (omega arith)
      ∙ ap (λ z. neg one ⊠ z) (wire_at f s signature y q (omega arith) ∙ ap (coeff f signature) (first_carries s.pairs (name_at s.pairs p) (omega arith))))
      ∙ ring f laws (x ∷ []) (uni ⊗ v0 ⊕ ⊖ uni ⊗ v0) nul refl

  -- each gate's output is the product of its inputs
  gate_holds : (g : ℕ) → g < gates s → gate_error f (encoded f s signature y) g ≡ nil
  gate_holds g h =
      let n = gates s in
      let read = carried f s.pairs signature in
      R.sub_nil f laws (coeff f (encoded f s signature y).left g ⊠ coeff f (encoded f s signature y).right g) (coeff f (encoded f s signature y).out g)
      (ap₂ ◌⊠◌
      (get_or-map-range_with_len read 0 n g g nil h (omega arith) ∙ ap (coeff f signature) (name_left s.pairs g h))
      (get_or-map-range_with_len read n n g (n + g) nil h refl ∙ ap (coeff f signature) (name_right s.pairs (n + g) g refl h))
      ∙ sym (get_or-map-range_with_len (product f s.pairs signature) 0 n g g nil h (omega arith)))

  pub faithful : ((i : ℕ) → i < s.variables → first s.pairs i < 2 * gates s) → Faithful f s signature y (encoded f s signature y)
  faithful used = (
    λ holds k h. sym (vector_low f s signature y k h)
        ∙ R.sub_same f laws (coeff f (encoded f s signature y).vector k) (row f (encoded f s signature y) k) (holds.rows_hold k (omega arith))
        ∙ equation_row used k h,
    λ solved. record {
      rows_hold = λ i h. R.sub_nil f laws (coeff f (encoded f s signature y).vector i) (row f (encoded f s signature y) i) (elim (dec_lt i (length y)) [
        | yes l ↦ vector_low f s signature y i l ∙ solved i l ∙ sym (equation_row used i l)
        | no l ↦ vector_high f s signature y i (omega arith) h ∙ sym (tie_row i (omega arith) h)
      ]);
      gates_hold = gate_holds;
    },
  )
