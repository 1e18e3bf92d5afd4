-- The entries of (1, wl, wr, wo), of the matrix and of the vector of an encoded signature.
use Rattle.std.proofs.Common.{◌≡◌, ℕ, ◌+◌, ◌-◌, ◌*◌, ◌/◌, ◌%◌, ◌<◌, ◌≤◌, List, length, replicate, refl, ◌∙◌, ap₂, arith}
use native.Mathlib.Decide.{dec_lt}
use Rattle.std.proofs.lemmas.Nat.{mul-add-lt, div-mul-add, mod-mul-add}
use Rattle.std.proofs.lemmas.List.FromFn.{get_or-map-range_with_len}
use Rattle.std.proofs.lemmas.List.{get_or_append_left, get_or-append_right, get_or-replicate}
use Rattle.field.specs.Field.{Ops}
use Rattle.algebra.specs.Polynomials.{coeff}
use Rattle.algebra.specs.Relation.{wires}
use Rattle.algebra.proofs.Relation.{wires_left, wires_right, wires_out}
use Rattle.quadratic.specs.Systems.{System, gates, product}
use Rattle.quadratic.specs.Encodings.{cell, carried, encoded}

module _ {K : Type 0} (f : Ops K) (s : System K) (signature y : List K) where
  pub wire_at : (p : ℕ) → p < 2 * gates s → wires f (encoded f s signature y) (1 + p) ≡ carried f s.pairs signature p
  wire_at p h =
      let n = gates s in
      elim (dec_lt p n) [
        | yes l ↦ wires_left f (encoded f s signature y) (1 + p) p refl l ∙ get_or-map-range_with_len (carried f s.pairs signature) 0 n p p f.nil l (omega arith)
        | no l ↦
            wires_right f (encoded f s signature y) (1 + p) (p - n) (omega arith) (omega arith)
            ∙ get_or-map-range_with_len (carried f s.pairs signature) n n (p - n) p f.nil (omega arith) (omega arith)
      ]

  pub out_at : (g : ℕ) → g < gates s → wires f (encoded f s signature y) (1 + 2 * gates s + g) ≡ product f s.pairs signature g
  out_at g h = wires_out f (encoded f s signature y) (1 + 2 * gates s + g) g refl ∙ get_or-map-range_with_len (product f s.pairs signature) 0 (gates s) g g f.nil h (omega arith)

  pub matrix_at : (i j : ℕ) → i < length y + 2 * gates s → j < 3 * gates s + 1
      → coeff f (encoded f s signature y).matrix (i * (3 * gates s + 1) + j) ≡ cell f s (length y) i j
  matrix_at i j h l =
      let width = 3 * gates s + 1 in
      get_or-map-range_with_len (λ q. cell f s (length y) (q / width) (q % width)) 0 ((length y + 2 * gates s) * width) (i * width + j) (i * width + j) f.nil
      (omega (arith, mul-add-lt i width j (length y + 2 * gates s) h l)) (omega arith)
      ∙ ap₂ (cell f s (length y)) (div-mul-add i width j l) (mod-mul-add i width j l)

  pub vector_low : (k : ℕ) → k < length y → coeff f (encoded f s signature y).vector k ≡ coeff f y k
  vector_low k h = get_or_append_left y (replicate (2 * gates s) f.nil) f.nil k h

  pub vector_high : (k : ℕ) → length y ≤ k → k < length y + 2 * gates s → coeff f (encoded f s signature y).vector k ≡ f.nil
  vector_high k l h =
      get_or-append_right y (replicate (2 * gates s) f.nil) (length y) k f.nil refl l ∙ get_or-replicate (2 * gates s) (k - length y) f.nil f.nil (omega arith)
