-- The state after a run is the one that its ledger names.
use Rattle.std.proofs.Common.{◌≡◌, ℕ, zero, suc, ◌+◌, ◌<◌, ◌≤◌, min, true, false, cond, eqb, ltb, leb, List, [], ◌∷◌, ◌++◌, length, get_or, Some, None, Option, sym, refl, ap, ◌∙◌, arith}
use Rattle.std.proofs.lemmas.Bool.Decides.{nat_tests}
use Rattle.std.proofs.lemmas.List.{append_assoc, append-nil, length_push}
use Rattle.field.specs.Field.{Ops, Laws}
use Rattle.polynomial.specs.Refusals.{Told}
use Rattle.oracle.specs.Standing.{Standing, after_by}
use Rattle.equations.specs.Tests.{accepts}
use Rattle.ledger.specs.Faults.{told}
use Rattle.ledger.specs.Ledger.{Move, opens, puts, draws, judges, lists_in, lists_of, drawn_in, drawn_of, sizes_of, put_due, draw_due, allowed, open_refusal, put_refusal, draw_refusal, refusal, refusals_by, entered, enter, ledger_from, refused_from}
use Rattle.ledger.specs.States.{State, fresh, verdict_by, accepted, refused, stepped, ran}
use Rattle.ledger.specs.declared.fault.SessionFault.TheVariants.{OutOfTurn, DrawOutOfTurn, JudgeOutOfTurn}
use Rattle.ledger.proofs.Formed.{Formed, Rest, past_else, formed_enter}

-- all that a state is told by: sizes, polynomials, challenges and turn
pub record Reading (K : Type 0) : Type 0 where
  pub sizes : ℕ × ℕ
  pub lists : List (List K)
  pub drawn : List K
  pub turn : ℕ

abbrev pub reading_of : {K : Type 0} → List (Move K) → Reading K
reading_of l = record { sizes = sizes_of l; lists = lists_of l; drawn = drawn_of l; turn = length l }

-- one entry more, after the first
abbrev read_more : {K : Type 0} → Reading K → Move K → Reading K
read_more r c = record { sizes = r.sizes; lists = r.lists ++ lists_in c; drawn = r.drawn ++ drawn_in c; turn = r.turn + 1 }

-- the verdict and the state of a reading, with k calls refused
abbrev pub verdict_at : {K : Type 0} → Ops K → Reading K → ℕ
verdict_at f r =
    cond (ltb r.turn 12) 0 (verdict_by (accepts f r.sizes.1 r.lists (get_or r.drawn 0 f.nil) (get_or r.drawn 1 f.nil) (get_or r.drawn 2 f.nil)))

abbrev pub state_at : {K : Type 0} → Ops K → Standing K → Reading K → ℕ → State K
state_at f st r k = record {
  oracle = record { lists = r.lists; cells = st.cells; rule = st.rule };
  turn = r.turn;
  m = r.sizes.0;
  n = r.sizes.1;
  alpha = get_or r.drawn 0 f.nil;
  beta = get_or r.drawn 1 f.nil;
  z = get_or r.drawn 2 f.nil;
  verdict = verdict_at f r;
  count = min k 4294967295;
}

-- how many challenges a turn has behind it
abbrev drawn_before : ℕ → ℕ
drawn_before t = cond (leb t 4) 0 (cond (leb t 5) 1 (cond (leb t 10) 2 3))

before_put : (t : ℕ) → put_due t ≡ true → drawn_before (suc t) ≡ drawn_before t
before_put t h = grind (arith, nat_tests)

before_draw : (t : ℕ) → draw_due t ≡ true → drawn_before (suc t) ≡ suc (drawn_before t)
before_draw t h = grind (arith, nat_tests)

before_judge : (t : ℕ) → t ≡ 11 → drawn_before (suc t) ≡ drawn_before t
before_judge t h = grind (arith, nat_tests)

turn_4 : (t d : ℕ) → draw_due t ≡ true → d ≡ drawn_before t → eqb t 4 ≡ eqb d 0
turn_4 t d h e = grind (arith, nat_tests)

turn_5 : (t d : ℕ) → draw_due t ≡ true → d ≡ drawn_before t → eqb t 5 ≡ eqb d 1
turn_5 t d h e = grind (arith, nat_tests)

turn_10 : (t d : ℕ) → draw_due t ≡ true → d ≡ drawn_before t → eqb t 10 ≡ eqb d 2
turn_10 t d h e = grind (arith, nat_tests)

put_early : (t : ℕ) → put_due t ≡ true → (1 ≤ t) × (t + 1 < 12)
put_early t h = (grind (arith, nat_tests), grind (arith, nat_tests))

draw_early : (t : ℕ) → draw_due t ≡ true → (1 ≤ t) × (t + 1 < 12)
draw_early t h = (grind (arith, nat_tests), grind (arith, nat_tests))

-- what one more entry adds
module _ {K : Type 0} where
  lists_more : (l : List (Move K)) (c : Move K) → lists_of (l ++ (c ∷ [])) ≡ lists_of l ++ lists_in c
  lists_more [] c = append-nil (lists_in c)
  lists_more (b ∷ l) c = ap (λ ps. lists_in b ++ ps) (lists_more l c) ∙ sym (append_assoc (lists_in b) (lists_of l) (lists_in c))

  drawn_more : (l : List (Move K)) (c : Move K) → drawn_of (l ++ (c ∷ [])) ≡ drawn_of l ++ drawn_in c
  drawn_more [] c = append-nil (drawn_in c)
  drawn_more (b ∷ l) c = ap (λ xs. drawn_in b ++ xs) (drawn_more l c) ∙ sym (append_assoc (drawn_in b) (drawn_of l) (drawn_in c))

  sizes_more : (l : List (Move K)) (c : Move K) → 1 ≤ length l → sizes_of (l ++ (c ∷ [])) ≡ sizes_of l
  sizes_more [] c h = absurd (omega arith)
  sizes_more (b ∷ l) c h = refl

  reading_more : (l : List (Move K)) (c : Move K) → 1 ≤ length l → reading_of (l ++ (c ∷ [])) ≡ read_more (reading_of l) c
  reading_more l c h = cc (sizes_more l c h, lists_more l c, drawn_more l c, length_push l c)

  pushed_at : (ds : List K) (x d : K) (i : ℕ) → get_or (ds ++ (x ∷ [])) i d ≡ cond (eqb (length ds) i) x (get_or ds i d)
  pushed_at [] x d zero = refl
  pushed_at [] x d (suc i) = let e : eqb 0 (suc i) ≡ false = grind (arith, nat_tests) in sym (ap (λ b. cond b x d) e)
  pushed_at (a ∷ ds) x d zero = let e : eqb (suc (length ds)) 0 ≡ false = grind (arith, nat_tests) in sym (ap (λ b. cond b x a) e)
  pushed_at (a ∷ ds) x d (suc i) =
      let e : eqb (length ds) i ≡ eqb (suc (length ds)) (suc i) = grind (arith, nat_tests) in
      pushed_at ds x d i ∙ ap (λ b. cond b x (get_or ds i d)) e

module _ {K : Type 0} (f : Ops K) where
  pub verdict_early : (r : Reading K) → r.turn < 12 → verdict_at f r ≡ 0
  verdict_early r h =
      let e : ltb r.turn 12 ≡ true = grind (arith, nat_tests) in
      ap (λ b. cond b 0 (verdict_by (accepts f r.sizes.1 r.lists (get_or r.drawn 0 f.nil) (get_or r.drawn 1 f.nil) (get_or r.drawn 2 f.nil)))) e

  -- a ledger has drawn as many challenges as its turn says
  rest_drawn : (t m n : ℕ) (l : List (Move K)) → Rest f t m n l → drawn_before t + length (drawn_of l) ≡ drawn_before (t + length l)
  rest_drawn t m n [] r = let e : t ≡ t + 0 = omega arith in let g : drawn_before t + 0 ≡ drawn_before t = omega arith in g ∙ ap drawn_before e
  rest_drawn t m n (opens a b matrix vector ∷ l) r = absurd r.0
  rest_drawn t m n (puts p ∷ l) r =
      let e : t + suc (length l) ≡ suc t + length l = omega arith in
      ap (λ k. k + length (drawn_of l)) (sym (before_put t r.0.0)) ∙ rest_drawn (suc t) m n l r.1 ∙ ap drawn_before (sym e)
  rest_drawn t m n (draws x ∷ l) r =
      let e : t + suc (length l) ≡ suc t + length l = omega arith in
      let g : drawn_before t + suc (length (drawn_of l)) ≡ suc (drawn_before t) + length (drawn_of l) = omega arith in
      g ∙ ap (λ k. k + length (drawn_of l)) (sym (before_draw t r.0.0)) ∙ rest_drawn (suc t) m n l r.1 ∙ ap drawn_before (sym e)
  rest_drawn t m n (judges ∷ l) r =
      let e : t + suc (length l) ≡ suc t + length l = omega arith in
      ap (λ k. k + length (drawn_of l)) (sym (before_judge t r.0)) ∙ rest_drawn (suc t) m n l r.1 ∙ ap drawn_before (sym e)

  formed_drawn : (l : List (Move K)) → Formed f l → length (drawn_of l) ≡ drawn_before (length l)
  formed_drawn [] r = refl
  formed_drawn (opens m n matrix vector ∷ l) r =
      let e : 1 + length l ≡ suc (length l) = omega arith in
      let g : length (drawn_of l) ≡ drawn_before 1 + length (drawn_of l) = omega arith in
      g ∙ rest_drawn 1 m n l r.1 ∙ ap drawn_before e
  formed_drawn (puts p ∷ l) r = absurd r
  formed_drawn (draws x ∷ l) r = absurd r
  formed_drawn (judges ∷ l) r = absurd r

  module _ (laws : Laws f) (st : Standing K) where
    -- an accepted call does to the state what one more entry does to the reading
    put_at : (r : Reading K) (p : List K) (k : ℕ) → r.turn + 1 < 12 → accepted f (state_at f st r k) (puts p) ≡ state_at f st (read_more r (puts p)) k
    put_at r p k h = cc (append-nil r.drawn, verdict_early r (omega arith), verdict_early (read_more r (puts p)) (omega arith))

    draw_at : (r : Reading K) (x : K) (k : ℕ) → draw_due r.turn ≡ true → length r.drawn ≡ drawn_before r.turn → r.turn + 1 < 12
        → accepted f (state_at f st r k) (draws x) ≡ state_at f st (read_more r (draws x)) k
    draw_at r x k t d h =
        let α : cond (eqb r.turn 4) x (get_or r.drawn 0 f.nil) ≡ get_or (r.drawn ++ (x ∷ [])) 0 f.nil =
        ap (λ y. cond y x (get_or r.drawn 0 f.nil)) (turn_4 r.turn (length r.drawn) t d) ∙ sym (pushed_at r.drawn x f.nil 0) in
        let β : cond (eqb r.turn 5) x (get_or r.drawn 1 f.nil) ≡ get_or (r.drawn ++ (x ∷ [])) 1 f.nil =
        ap (λ y. cond y x (get_or r.drawn 1 f.nil)) (turn_5 r.turn (length r.drawn) t d) ∙ sym (pushed_at r.drawn x f.nil 1) in
        let ζ : cond (eqb r.turn 10) x (get_or r.drawn 2 f.nil) ≡ get_or (r.drawn ++ (x ∷ [])) 2 f.nil =
        ap (λ y. cond y x (get_or r.drawn 2 f.nil)) (turn_10 r.turn (length r.drawn) t d) ∙ sym (pushed_at r.drawn x f.nil 2) in
        cc (α, β, ζ, append-nil r.lists, verdict_early r (omega arith), verdict_early (read_more r (draws x)) (omega arith))

    judge_at : (r : Reading K) (k : ℕ) → r.turn ≡ 11 → accepted f (state_at f st r k) judges ≡ state_at f st (read_more r judges) k
    judge_at r k h =
        let e : 12 ≡ r.turn + 1 = omega arith in
        ap (λ t. state_at f st (record { sizes = r.sizes; lists = r.lists; drawn = r.drawn; turn = t }) k) e
        ∙ ap (λ ps. state_at f st (record { sizes = r.sizes; lists = ps; drawn = r.drawn; turn = r.turn + 1 }) k) (sym (append-nil r.lists))
        ∙ ap (λ ds. state_at f st (record { sizes = r.sizes; lists = r.lists ++ []; drawn = ds; turn = r.turn + 1 }) k) (sym (append-nil r.drawn))

    accepted_at : (l : List (Move K)) (c : Move K) (k : ℕ) → Formed f l → refusal f st l c ≡ None
        → accepted f (state_at f st (reading_of l) k) c ≡ state_at f st (reading_of (l ++ (c ∷ []))) k
    accepted_at [] (opens m n matrix vector) k r h = refl
    accepted_at (b ∷ l) (opens m n matrix vector) k r h =
        let e = past_else (eqb (suc (length l)) 0) (open_refusal f (entered st (b ∷ l)) m n matrix vector) (told OutOfTurn) h in
        let d = e.0 in
        absurd (grind (arith, nat_tests))
    accepted_at l (puts p) k r h =
        let t = (past_else (put_due (length l)) (put_refusal (entered st l) (allowed (length l) (sizes_of l).0 (sizes_of l).1) p) (told OutOfTurn) h).0 in
        let e = put_early (length l) t in
        put_at (reading_of l) p k e.1 ∙ ap (λ y. state_at f st y k) (sym (reading_more l (puts p) e.0))
    accepted_at l (draws x) k r h =
        let t = (past_else (draw_due (length l)) (draw_refusal f x) (told DrawOutOfTurn) h).0 in
        let e = draw_early (length l) t in
        draw_at (reading_of l) x k t (formed_drawn l r) e.1 ∙ ap (λ y. state_at f st y k) (sym (reading_more l (draws x) e.0))
    accepted_at l judges k r h =
        let t = (past_else (eqb (length l) 11) None (told JudgeOutOfTurn) h).0 in
        let e : length l ≡ 11 = grind (arith, nat_tests) in
        judge_at (reading_of l) k e ∙ ap (λ y. state_at f st y k) (sym (reading_more l judges (omega arith)))

    by_refusal : (o : Option Told) (l : List (Move K)) (c : Move K) (k : ℕ)
        → (o ≡ None → accepted f (state_at f st (reading_of l) k) c ≡ state_at f st (reading_of (l ++ (c ∷ []))) k)
        → after_by o (refused (state_at f st (reading_of l) k)) (accepted f (state_at f st (reading_of l) k) c)
        ≡ state_at f st (reading_of (after_by o l (l ++ (c ∷ [])))) (k + refusals_by o)
    by_refusal (Some t) l c k h = cc (capped k)
      where
        capped : (k : ℕ) → min (min k 4294967295 + 1) 4294967295 ≡ min (k + 1) 4294967295
        capped k = omega arith
    by_refusal None l c k h = let e : k ≡ k + 0 = omega arith in h refl ∙ ap (λ j. state_at f st (reading_of (l ++ (c ∷ []))) j) e

    step_at : (l : List (Move K)) (c : Move K) (k : ℕ) → Formed f l
        → stepped f (state_at f st (reading_of l) k) c ≡ state_at f st (reading_of (enter f st l c)) (k + refusals_by (refusal f st l c))
    step_at l c k r = by_refusal (refusal f st l c) l c k (accepted_at l c k r)

    pub ran_at : (l cs : List (Move K)) (k : ℕ) → Formed f l
        → ran f (state_at f st (reading_of l) k) cs ≡ state_at f st (reading_of (ledger_from f st l cs)) (k + refused_from f st l cs)
    ran_at l [] k r = let e : k ≡ k + 0 = omega arith in ap (λ j. state_at f st (reading_of l) j) e
    ran_at l (c ∷ cs) k r =
        let o = refusals_by (refusal f st l c) in
        let e : k + o + refused_from f st (enter f st l c) cs ≡ k + (o + refused_from f st (enter f st l c) cs) = omega arith in
        ap (λ s. ran f s cs) (step_at l c k r)
        ∙ ran_at (enter f st l c) cs (k + o) (formed_enter f laws st l c r)
        ∙ ap (λ j. state_at f st (reading_of (ledger_from f st (enter f st l c) cs)) j) e
