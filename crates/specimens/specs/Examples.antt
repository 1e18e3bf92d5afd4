-- Worked examples: what the definitions give at numbers that were computed by hand.
use Rattle.std.specs.Prelude.{◌≡◌, List, [], ◌∷◌, map, ℕ, ◌-◌}
use Rattle.algebra.specs.Polynomials.{coeff, value, Divides, middle_list}
use Rattle.algebra.specs.Proofs.{Solves}
use Rattle.algebra.specs.Challenges.{Lucky}
use Rattle.algebra.specs.Relation.{Claim, Holds}
use Rattle.mersenne31.specs.Mersenne31.{Remainder, modulo, p, rem}
use Rattle.gf256.specs.Gf256.{bytes, low}

-- the elements that numbers stand for, modulo 2^31 - 1
abbrev pub elements : List ℕ → List Remainder
elements xs = map rem xs

-- one row (5, 1, 2, 3), the entry x, and the wires 2, 3, 6 of one gate
abbrev pub one_gate : ℕ → Claim Remainder
one_gate x = record {
  m = 1;
  n = 1;
  matrix = elements (5 ∷ 1 ∷ 2 ∷ 3 ∷ []);
  vector = elements (x ∷ []);
  left = elements (2 ∷ []);
  right = elements (3 ∷ []);
  out = elements (6 ∷ []);
}

-- the worked examples, as one fact
pub record Worked : Type 0 where
  pub minus_one_squared : modulo.mul (rem (p - 1)) (rem (p - 1)) ≡ rem 1
  pub inverse_of_seven : modulo.inv (rem 7) ≡ rem 1840700269
  pub bytes_57_83 : bytes.mul (low 0x57) (low 0x83) ≡ low 0xc1
  pub bytes_53_ca : bytes.mul (low 0x53) (low 0xca) ≡ low 0x01
  pub value_at_2 : value modulo (elements (5 ∷ 1 ∷ 2 ∷ 3 ∷ [])) (rem 2) ≡ rem 39
  pub value_at_0 : value modulo (elements (5 ∷ 1 ∷ 2 ∷ 3 ∷ [])) (rem 0) ≡ rem 5
  pub value_of_nothing : (x : Remainder) → value modulo [] x ≡ rem 0
  pub two_rows : Divides modulo (elements (5 ∷ 1 ∷ 2 ∷ 3 ∷ 1 ∷ 0 ∷ 0 ∷ 1 ∷ [])) 4 (rem 10) (elements (1 ∷ 0 ∷ 0 ∷ 1 ∷ [])) (elements (15 ∷ 1 ∷ 2 ∷ 13 ∷ []))
  pub middle_of_pairs : middle_list modulo 1 (elements (6 ∷ 42 ∷ [])) (elements (1 ∷ 1 ∷ [])) ≡ elements (6 ∷ 48 ∷ 42 ∷ [])
  pub claim_31 : Holds modulo (one_gate 31)
  pub claim_32 : Holds modulo (one_gate 32) → ⊥
  pub twist_of_pairs : Solves modulo 1 (coeff modulo (elements (1 ∷ 0 ∷ (p - 1) ∷ []))) (coeff modulo (elements (6 ∷ 42 ∷ []))) (coeff modulo (elements (1 ∷ 1 ∷ [])))
  pub lucky_5 : Lucky modulo 2 (coeff modulo (elements (5 ∷ (p - 1) ∷ []))) (rem 5)
  pub only_5 : (x : Remainder) → Lucky modulo 2 (coeff modulo (elements (5 ∷ (p - 1) ∷ []))) x → x ≡ rem 5
