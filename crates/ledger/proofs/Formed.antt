-- The shape of every ledger that calls make.
use Rattle.std.proofs.Common.{◌≡◌, ℕ, suc, ◌+◌, ◌*◌, ◌≤◌, Bool, true, false, cond, eqb, ltb, List, [], ◌∷◌, ◌++◌, length, Some, None, Option, refl, subst, le_of_suc-le-suc, arith}
use Rattle.std.proofs.lemmas.Bool.Decides.{nat_tests}
use Rattle.field.specs.Field.{Ops, Laws}
use Rattle.algebra.specs.Relation.{Claim}
use Rattle.algebra.specs.Proofs.{Reply, Shaped, ReplyShaped}
use Rattle.polynomial.specs.Refusals.{Told}
use Rattle.prover.specs.Claims.{in_range}
use Rattle.oracle.specs.Standing.{Standing, fix_refusal, after_by}
use Rattle.ledger.specs.Faults.{told, held}
use Rattle.ledger.specs.Ledger.{Move, opens, puts, draws, judges, put_due, draw_due, allowed, in_shape, room_refusal, open_refusal, put_refusal, draw_refusal, refusal_at, refusal, entered, enter, ledger_from}
use Rattle.ledger.specs.declared.fault.SessionFault.TheVariants.{OutOfTurn, BadSize, BadLength, TooMany, DrawOutOfTurn, ZeroChallenge, JudgeOutOfTurn}

-- what an accepted open has
pub record Opened {K : Type 0} (f : Ops K) (m n : ℕ) (matrix vector : List K) : Type 0 where
  pub rows : 1 ≤ m
  pub gates : 1 ≤ n
  pub near : 6 * n ≤ f.span
  pub matrix_long : length matrix ≡ m * (3 * n + 1)
  pub vector_long : length vector ≡ m

-- what a call accepted at a turn after the first has
abbrev pub Due : {K : Type 0} → Ops K → ℕ → ℕ → ℕ → Move K → Type 0
Due f t m n (opens a b matrix vector) = ⊥
Due f t m n (puts p) = (put_due t ≡ true) × (length p ≤ allowed t m n)
Due f t m n (draws x) = (draw_due t ≡ true) × (x ≡ f.nil → ⊥)
Due f t m n judges = t ≡ 11

-- what the entries from turn t on have
abbrev pub Rest : {K : Type 0} → Ops K → ℕ → ℕ → ℕ → List (Move K) → Type 0
Rest f t m n [] = Unit {0}
Rest f t m n (c ∷ l) = Due f t m n c × Rest f (suc t) m n l

abbrev pub Formed : {K : Type 0} → Ops K → List (Move K) → Type 0
Formed f [] = Unit {0}
Formed f (opens m n matrix vector ∷ l) = Opened f m n matrix vector × Rest f 1 m n l
Formed f (puts p ∷ l) = ⊥
Formed f (draws x ∷ l) = ⊥
Formed f (judges ∷ l) = ⊥

-- a test passed where no refusal fits
pub past_else : (b : Bool) (o : Option Told) (t : Told) → cond b o (Some t) ≡ None → (b ≡ true) × (o ≡ None)
past_else true o t h = (refl, h)
past_else false o t h = let z : ◌≡◌ {A = ℕ} 0 1 = cc in absurd (omega arith)

pub past_then : (b : Bool) (o : Option Told) (t : Told) → cond b (Some t) o ≡ None → (b ≡ false) × (o ≡ None)
past_then false o t h = (refl, h)
past_then true o t h = let z : ◌≡◌ {A = ℕ} 0 1 = cc in absurd (omega arith)

put_not_draw : (t : ℕ) → put_due t ≡ true → draw_due t ≡ true → ⊥
put_not_draw t h k = grind (arith, nat_tests)

put_not_judge : (t : ℕ) → put_due t ≡ true → t ≡ 11 → ⊥
put_not_judge t h k = grind (arith, nat_tests)

draw_not_judge : (t : ℕ) → draw_due t ≡ true → t ≡ 11 → ⊥
draw_not_judge t h k = grind (arith, nat_tests)

module _ {K : Type 0} (f : Ops K) (laws : Laws f) where
  opened_if : (m n : ℕ) (matrix vector : List K) → in_range f.span m n ≡ true → in_shape m n (length matrix) (length vector) ≡ true → Opened f m n matrix vector
  opened_if m n matrix vector h k = record {
    rows = grind (arith, nat_tests);
    gates = grind (arith, nat_tests);
    near = grind (arith, nat_tests);
    matrix_long = grind (arith, nat_tests);
    vector_long = grind (arith, nat_tests);
  }

  due_if : (st : Standing K) (t m n : ℕ) (c : Move K) → 1 ≤ t → refusal_at f st t m n c ≡ None → Due f t m n c
  due_if st t m n (opens a b matrix vector) l h =
      let e = past_else (eqb t 0) (open_refusal f st a b matrix vector) (told OutOfTurn) h in
      let d = e.0 in
      grind (arith, nat_tests)
  due_if st t m n (puts p) l h =
      let e = past_else (put_due t) (put_refusal st (allowed t m n) p) (told OutOfTurn) h in
      let d = past_then (ltb (allowed t m n) (length p)) (held (fix_refusal st p)) (told TooMany) e.1 in
      (e.0, below (allowed t m n) (length p) d.0)
    where
      below : (a b : ℕ) → ltb a b ≡ false → b ≤ a
      below a b h = grind (arith, nat_tests)
  due_if st t m n (draws x) l h =
      let e = past_else (draw_due t) (draw_refusal f x) (told DrawOutOfTurn) h in
      let d = past_then (f.same x f.nil) None (told ZeroChallenge) e.1 in
      (e.0, laws.same_no x f.nil d.0)
  due_if st t m n judges l h = let e = past_else (eqb t 11) None (told JudgeOutOfTurn) h in let d = e.0 in grind (arith, nat_tests)

  rest_more : (t m n : ℕ) (l : List (Move K)) (c : Move K) → Rest f t m n l → Due f (t + length l) m n c → Rest f t m n (l ++ (c ∷ []))
  rest_more t m n [] c r d = let e : t + 0 ≡ t = omega arith in (subst (λ (k : ℕ). Due f k m n c) e d, tt)
  rest_more t m n (b ∷ l) c r d =
      let e : t + suc (length l) ≡ suc t + length l = omega arith in
      (r.0, rest_more (suc t) m n l c r.1 (subst (λ (k : ℕ). Due f k m n c) e d))

  module _ (st : Standing K) where
    formed_more : (l : List (Move K)) (c : Move K) → Formed f l → refusal f st l c ≡ None → Formed f (l ++ (c ∷ []))
    formed_more [] (opens m n matrix vector) r h =
        let room = room_refusal (entered st []) matrix vector in
        let e = past_else (in_range f.span m n) (cond (in_shape m n (length matrix) (length vector)) room (Some (told BadLength))) (told BadSize) h in
        let d = past_else (in_shape m n (length matrix) (length vector)) room (told BadLength) e.1 in
        (opened_if m n matrix vector e.0 d.0, tt)
    formed_more [] (puts p) r h = let z : ◌≡◌ {A = ℕ} 0 1 = cc in absurd (omega arith)
    formed_more [] (draws x) r h = let z : ◌≡◌ {A = ℕ} 0 1 = cc in absurd (omega arith)
    formed_more [] judges r h = let z : ◌≡◌ {A = ℕ} 0 1 = cc in absurd (omega arith)
    formed_more (opens m n matrix vector ∷ l) c r h =
        let e : suc (length l) ≡ 1 + length l = omega arith in
        let due = due_if (entered st (opens m n matrix vector ∷ l)) (suc (length l)) m n c (omega arith) h in
        (r.0, rest_more 1 m n l c r.1 (subst (λ (k : ℕ). Due f k m n c) e due))
    formed_more (puts p ∷ l) c r h = absurd r
    formed_more (draws x ∷ l) c r h = absurd r
    formed_more (judges ∷ l) c r h = absurd r

    formed_by : (o : Option Told) (l : List (Move K)) (c : Move K) → Formed f l → (o ≡ None → Formed f (l ++ (c ∷ []))) → Formed f (after_by o l (l ++ (c ∷ [])))
    formed_by (Some t) l c r h = r
    formed_by None l c r h = h refl

    pub formed_enter : (l : List (Move K)) (c : Move K) → Formed f l → Formed f (enter f st l c)
    formed_enter l c r = formed_by (refusal f st l c) l c r (formed_more l c r)

    pub formed_from : (l cs : List (Move K)) → Formed f l → Formed f (ledger_from f st l cs)
    formed_from l [] r = r
    formed_from l (c ∷ cs) r = formed_from (enter f st l c) cs (formed_enter l c r)

  -- a ledger is never longer than twelve
  rest_short : (t m n : ℕ) (l : List (Move K)) → t ≤ 12 → Rest f t m n l → t + length l ≤ 12
  rest_short t m n [] k r = omega arith
  rest_short t m n (c ∷ l) k r = let b = rest_short (suc t) m n l (due_turn c r.0) r.1 in omega arith
    where
      due_turn : (c : Move K) → Due f t m n c → suc t ≤ 12
      due_turn (opens a b matrix vector) d = absurd d
      due_turn (puts p) d = let e = d.0 in grind (arith, nat_tests)
      due_turn (draws x) d = let e = d.0 in grind (arith, nat_tests)
      due_turn judges d = omega arith

  pub formed_short : (l : List (Move K)) → Formed f l → length l ≤ 12
  formed_short [] r = omega arith
  formed_short (opens m n matrix vector ∷ l) r = let b = rest_short 1 m n l (omega arith) r.1 in omega arith
  formed_short (puts p ∷ l) r = absurd r
  formed_short (draws x ∷ l) r = absurd r
  formed_short (judges ∷ l) r = absurd r

  -- to show P of what is left of a ledger at a turn that takes a put, or a draw, k entries and more to follow, look at its first entry
  pub at_put : (t m n k : ℕ) (l : List (Move K)) (P : List (Move K) → Type 0) → put_due t ≡ true → suc k ≤ length l → Rest f t m n l
      → ((p : List K) (rest : List (Move K)) → length p ≤ allowed t m n → k ≤ length rest → Rest f (suc t) m n rest → P (puts p ∷ rest)) → P l
  at_put t m n k [] P h b r go = absurd (omega arith)
  at_put t m n k (opens a c matrix vector ∷ l) P h b r go = absurd r.0
  at_put t m n k (puts p ∷ l) P h b r go = go p l r.0.1 (le_of_suc-le-suc b) r.1
  at_put t m n k (draws x ∷ l) P h b r go = absurd (put_not_draw t h r.0.0)
  at_put t m n k (judges ∷ l) P h b r go = absurd (put_not_judge t h r.0)

  pub at_draw : (t m n k : ℕ) (l : List (Move K)) (P : List (Move K) → Type 0) → draw_due t ≡ true → suc k ≤ length l → Rest f t m n l
      → ((x : K) (rest : List (Move K)) → (x ≡ f.nil → ⊥) → k ≤ length rest → Rest f (suc t) m n rest → P (draws x ∷ rest)) → P l
  at_draw t m n k [] P h b r go = absurd (omega arith)
  at_draw t m n k (opens a c matrix vector ∷ l) P h b r go = absurd r.0
  at_draw t m n k (puts p ∷ l) P h b r go = absurd (put_not_draw t r.0.0 h)
  at_draw t m n k (draws x ∷ l) P h b r go = go x l r.0.1 (le_of_suc-le-suc b) r.1
  at_draw t m n k (judges ∷ l) P h b r go = absurd (draw_not_judge t h r.0)

  -- ten entries and more: a claim, a reply and the challenges α and β
  abbrev pub entries : Claim K → Reply K → K → K → List (Move K) → List (Move K)
  entries s p α β rest =
      opens s.m s.n s.matrix s.vector ∷ puts s.left ∷ puts s.right ∷ puts s.out ∷ draws α ∷ draws β ∷ puts p.r ∷ puts p.q ∷ puts p.h1 ∷ puts p.h2 ∷ rest

  -- to show P of a ledger of k entries beyond the tenth, show it of those
  pub at_ten : (k : ℕ) (l : List (Move K)) (P : List (Move K) → Type 0) → 10 + k ≤ length l → Formed f l
      → ((s : Claim K) (p : Reply K) (α β : K) (rest : List (Move K)) → Shaped s → ReplyShaped s p → 6 * s.n ≤ f.span → k ≤ length rest → Rest f 10 s.m s.n rest → P (entries s p α β rest))
      → P l
  at_ten k [] P b d go = absurd (omega arith)
  at_ten k (puts p ∷ l) P b d go = absurd d
  at_ten k (draws x ∷ l) P b d go = absurd d
  at_ten k (judges ∷ l) P b d go = absurd d
  at_ten k (opens m n matrix vector ∷ l) P b d go =
      at_put 1 m n (8 + k) l (λ y. P (opens m n matrix vector ∷ y)) refl (omega arith) d.1 (λ left l1 s1 b1 d1.
      at_put 2 m n (7 + k) l1 (λ y. P (opens m n matrix vector ∷ puts left ∷ y)) refl (omega arith) d1 (λ right l2 s2 b2 d2.
      at_put 3 m n (6 + k) l2 (λ y. P (opens m n matrix vector ∷ puts left ∷ puts right ∷ y)) refl (omega arith) d2 (λ out l3 s3 b3 d3.
      at_draw 4 m n (5 + k) l3 (λ y. P (opens m n matrix vector ∷ puts left ∷ puts right ∷ puts out ∷ y)) refl (omega arith) d3 (λ α l4 s4 b4 d4.
      at_draw 5 m n (4 + k) l4 (λ y. P (opens m n matrix vector ∷ puts left ∷ puts right ∷ puts out ∷ draws α ∷ y)) refl (omega arith) d4 (λ β l5 s5 b5 d5.
      at_put 6 m n (3 + k) l5 (λ y. P (opens m n matrix vector ∷ puts left ∷ puts right ∷ puts out ∷ draws α ∷ draws β ∷ y)) refl (omega arith) d5 (λ r l6 s6 b6 d6.
      at_put 7 m n (2 + k) l6 (λ y. P (opens m n matrix vector ∷ puts left ∷ puts right ∷ puts out ∷ draws α ∷ draws β ∷ puts r ∷ y)) refl (omega arith) d6 (λ q l7 s7 b7 d7.
      at_put 8 m n (1 + k) l7 (λ y. P (opens m n matrix vector ∷ puts left ∷ puts right ∷ puts out ∷ draws α ∷ draws β ∷ puts r ∷ puts q ∷ y)) refl (omega arith) d7 (λ h1 l8 s8 b8 d8.
      at_put 9 m n k l8 (λ y. P (opens m n matrix vector ∷ puts left ∷ puts right ∷ puts out ∷ draws α ∷ draws β ∷ puts r ∷ puts q ∷ puts h1 ∷ y)) refl (omega arith) d8 (λ h2 l9 s9 b9 d9.
      go (record { m = m; n = n; matrix = matrix; vector = vector; left = left; right = right; out = out }) (record { r = r; q = q; h1 = h1; h2 = h2 }) α β l9
      (record { rows = d.0.rows; gates = d.0.gates; matrix_long = d.0.matrix_long; vector_long = d.0.vector_long; left_long = s1; right_long = s2; out_long = s3 })
      (record { r_long = s6; q_long = s7; h1_long = s8; h2_long = s9 }) d.0.near b9 d9)))))))))
