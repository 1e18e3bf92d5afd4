-- An open that finds room fits.
use Rattle.std.proofs.Common.{◌≡◌, ℕ, ◌+◌, ◌*◌, ◌≤◌, Bool, true, false, cond, ltb, List, length, IfOk, Some, None, Ok, Err, Result, refl, ap, ◌∙◌, mul-le-mul, arith}
use Rattle.std.proofs.lemmas.Bool.Decides.{nat_tests}
use Rattle.field.specs.Field.{Ops}
use Rattle.prover.specs.Claims.{in_range}
use Rattle.oracle.specs.Standing.{Standing, free_of, answer_by}
use Rattle.oracle.specs.declared.fault.OracleFault.TheVariants.{NoRoom}
use Rattle.ledger.specs.Faults.{told, told_answer}
use Rattle.ledger.specs.Ledger.{in_shape, room_refusal, open_refusal}
use Rattle.ledger.specs.declared.fault.SessionFault.{SessionFault}
use Rattle.ledger.specs.declared.fault.SessionFault.TheVariants.{BadSize, BadLength, Oracle}
use Rattle.session.specs.Statements.{FitsLists}

-- sizes and lengths that are not refused
module _ {K : Type 0} (f : Ops K) (st : Standing K) (m n : ℕ) (matrix vector : List K) (range : in_range f.span m n ≡ true) (shape : in_shape m n (length matrix) (length vector) ≡ true) where
  pub matrix_fits : length matrix ≤ 16384
  matrix_fits =
      let few : m ≤ 64 = grind (arith, nat_tests) in
      let wide : 3 * n + 1 ≤ 256 = grind (arith, nat_tests) in
      let long : length matrix ≡ m * (3 * n + 1) = grind (arith, nat_tests) in
      let most = mul-le-mul few wide in
      omega arith

  pub vector_fits : length vector ≤ 16384
  vector_fits = grind (arith, nat_tests)

  pub open_is : open_refusal f st m n matrix vector ≡ room_refusal st matrix vector
  open_is =
      ap (λ b. cond b (cond (in_shape m n (length matrix) (length vector)) (room_refusal st matrix vector) (Some (told BadLength))) (Some (told BadSize))) range
      ∙ ap (λ b. cond b (room_refusal st matrix vector) (Some (told BadLength))) shape

  roomy : (y : Bool) → ltb (free_of st) (st.rule matrix + st.rule vector) ≡ y → (u : Unit {0}) → Ok u ≡ answer_by (room_refusal st matrix vector) → st.rule matrix + st.rule vector ≤ free_of st
  roomy false w u h = grind (arith, nat_tests)
  roomy true w u h =
      let z : ◌≡◌ {A = ℕ} 0 1 = cc (h ∙ ap (λ y. answer_by (cond y (Some (told (Oracle (NoRoom (st.rule matrix + st.rule vector) (free_of st))))) None)) w) in absurd (omega arith)

  pub fits_if : (r : Result (Unit {0}) SessionFault) → told_answer r ≡ answer_by (room_refusal st matrix vector) → IfOk r (λ u. FitsLists st m n matrix vector)
  fits_if (Err e) h = tt
  fits_if (Ok u) h =
      let room = roomy (ltb (free_of st) (st.rule matrix + st.rule vector)) refl u h in
      let a = matrix_fits in
      let b = vector_fits in
      record { few_rows = grind (arith, nat_tests); few_gates = grind (arith, nat_tests); first = grind (arith, nat_tests); second = grind (arith, nat_tests) }
