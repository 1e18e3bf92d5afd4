use mathlib.Core.Path.{◌≡◌, refl, ap, ap₂}
use mathlib.Core.List.{List, [], ◌∷◌, map}
use Prim.Native.Nat.{ℕ, zero, suc}
use native.Mathlib.Omega.{arith}
use Rattle.field.proofs.Numbers.{below_path}
use Rattle.algebra.specs.Relation.{Holds, ZeroBelow, row_error, gate_error}
use Rattle.mersenne31.specs.Mersenne31.{Remainder, modulo, p}
use Rattle.specimens.specs.Examples.{one_gate}
use Rattle.specimens.proofs.Challenges.{twist_of_pairs, lucky_5, only_5}
use Rattle.specimens.proofs.Division.{two_rows}
use Rattle.specimens.proofs.worked_examples.Goals as goal

-- lists are the same where the numbers in them are
by_numbers : (xs ys : List Remainder) → map (λ (x : Remainder). x.0) xs ≡ map (λ (x : Remainder). x.0) ys → xs ≡ ys
by_numbers [] [] e = refl
by_numbers [] (y ∷ ys) e = absurd (let z : ◌≡◌ {A = ℕ} 0 1 = cc in omega arith)
by_numbers (x ∷ xs) [] e = absurd (let z : ◌≡◌ {A = ℕ} 0 1 = cc in omega arith)
by_numbers (x ∷ xs) (y ∷ ys) e = ap₂ ◌∷◌ (below_path p (let h : x.0 ≡ y.0 = cc in h)) (by_numbers xs ys (let h : map (λ (x : Remainder). x.0) xs ≡ map (λ (x : Remainder). x.0) ys = cc in h))

row : ZeroBelow modulo 1 (row_error modulo (one_gate 31))
row zero h = below_path p refl
row (suc i) h = absurd (omega arith)

gate : ZeroBelow modulo 1 (gate_error modulo (one_gate 31))
gate zero h = below_path p refl
gate (suc i) h = absurd (omega arith)

one_off : Holds modulo (one_gate 32) → ⊥
one_off h = let e = ap (λ (x : Remainder). x.0) (h.rows_hold 0 (omega arith)) in omega arith

pub returns : goal.returns
returns c =
    record {
      minus_one_squared = below_path p refl;
      inverse_of_seven = below_path p refl;
      bytes_57_83 = below_path 256 refl;
      bytes_53_ca = below_path 256 refl;
      value_at_2 = below_path p refl;
      value_at_0 = below_path p refl;
      value_of_nothing = λ x. refl;
      two_rows = two_rows;
      middle_of_pairs = by_numbers _ _ refl;
      claim_31 = record { rows_hold = row; gates_hold = gate };
      claim_32 = one_off;
      twist_of_pairs = twist_of_pairs;
      lucky_5 = lucky_5;
      only_5 = only_5;
    }
