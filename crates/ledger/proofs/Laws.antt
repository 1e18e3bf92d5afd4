-- Every run keeps the law.
use Rattle.std.proofs.Common.{◌≡◌, ℕ, suc, ◌+◌, ◌-◌, ◌*◌, ◌≤◌, max, Bool, true, false, cond, ltb, ◌⊎◌, List, [], ◌∷◌, length, take, None, Decides, sym, refl, ap, ◌∙◌, subst, inl, inr, zero-add, arith}
use native.Mathlib.Decide.{dec_lt}
use Rattle.std.proofs.lemmas.Bool.Decides.{nat_tests, Decides-at, Decides-and, Decides-like, not_from_Decides}
use Rattle.field.specs.Field.{Ops, Laws}
use Rattle.algebra.specs.Relation.{Claim}
use Rattle.algebra.specs.Proofs.{Reply}
use Rattle.algebra.specs.Roots.{Each}
use Rattle.algebra.proofs.Theorems as theorems
use Rattle.inner_product.specs.Faults as claim
use Rattle.inner_product.specs.Settling.{Settles, settles}
use Rattle.inner_product.proofs.Sameness.{decides_same}
use Rattle.oracle.specs.Standing.{Standing, after_by}
use Rattle.equations.specs.Tests.{settled, first_test, second_test, third_test, accepts}
use Rattle.ledger.specs.Ledger.{Move, draws, lists_of, m_of, n_of, alpha_of, beta_of, z_of, claim_of, ledger_of, refused_of, sizes_of}
use Rattle.ledger.specs.States.{State, fresh, ran, verdict_by}
use Rattle.ledger.specs.Law.{TrueClaim, Equal, HonestReply, LuckyAlpha, LuckyBeta, LuckyZ, before_alpha, before_beta, before_z, OneLucky, AtMost, Verdict, Law, RunsKeepTheLaw}
use Rattle.ledger.proofs.Formed.{Formed, entries, at_draw, at_ten, formed_short, formed_from}
use Rattle.ledger.proofs.Steps.{reading_of, verdict_at, state_at, verdict_early, ran_at}
use Rattle.ledger.proofs.Fronts.{grows, entered_once, all_told}

module _ {K : Type 0} (f : Ops K) (laws : Laws f) where
  each_kept : (P : K → Type 0) (xs : List K) → Each (λ x. (x ≡ f.nil → ⊥) × P x) xs → Each P xs
  each_kept P [] e = tt
  each_kept P (x ∷ xs) e = (e.0.1, each_kept P xs e.1)

  sizes_front : (j : ℕ) (l : List (Move K)) → sizes_of (take (suc j) l) ≡ sizes_of l
  sizes_front j [] = refl
  sizes_front j (c ∷ l) = refl

  few_alpha_at : (l : List (Move K)) → AtMost f (m_of l - 1) (LuckyAlpha f (before_alpha l))
  few_alpha_at l xs d e =
      let g = theorems.few_alpha f laws (claim_of (take 4 l)) xs d (each_kept (LuckyAlpha f (before_alpha l)) xs e) in
      let r = ap (λ (s : ℕ × ℕ). s.0) (sizes_front 3 l) in
      omega (arith, g, r)

  few_beta_at : (l : List (Move K)) → AtMost f (n_of l - 1) (LuckyBeta f (before_beta l))
  few_beta_at l xs d e =
      let g = theorems.few_beta f laws (claim_of (take 5 l)) xs d (each_kept (LuckyBeta f (before_beta l)) xs e) in
      let r = ap (λ (s : ℕ × ℕ). s.1) (sizes_front 4 l) in
      omega (arith, g, r)

  few_z_at : (l : List (Move K)) → 10 ≤ length l → Formed f l → AtMost f (max (m_of l * (3 * n_of l + 1) - 1) (6 * n_of l)) (LuckyZ f (before_z l))
  few_z_at l h d =
      at_ten f laws 0 l (λ y. AtMost f (max (m_of y * (3 * n_of y + 1) - 1) (6 * n_of y)) (LuckyZ f (before_z y))) h d
      (λ s p α β rest shaped fits near b r xs distinct e. theorems.few_z f laws s p α β xs shaped fits distinct (each_kept (LuckyZ f (before_z (entries f laws s p α β rest))) xs e))

  -- judge's tests say yes exactly if the equations hold
  stated : (d : ℕ) (z : K) → 2 * d ≤ f.span → (z ≡ f.nil → ⊥) → claim.refusal f d z ≡ None
  stated d z h some =
      let a : ltb f.span (2 * d) ≡ false = grind (arith, nat_tests) in
      let b : f.same z f.nil ≡ false = differs (f.same z f.nil) refl in
      simp (a, b)
    where
      differs : (y : Bool) → f.same z f.nil ≡ y → f.same z f.nil ≡ false
      differs false h = h
      differs true h = absurd (some (laws.same_yes z f.nil h))

  settled_if : (d : ℕ) (c z ya yb yh yh2 : K) → 2 * d ≤ f.span → (z ≡ f.nil → ⊥) → Decides (settled f d c z ya yb yh yh2) (Settles f d c z ya yb yh yh2)
  settled_if d c z ya yb yh yh2 h some =
      Decides-at (settled f d c z ya yb yh yh2) (settles f d c z ya yb yh yh2) (ap (λ o. after_by o false (settles f d c z ya yb yh yh2)) (stated d z h some)) (decides_same f laws _ _)

  -- what is shown of a ledger at turn 12
  pub record Ended (l : List (Move K)) : Type 0 where
    pub decided : Decides (accepts f (n_of l) (lists_of l) (alpha_of f l) (beta_of f l) (z_of f l)) (Equal f l)
    pub lucky_if : Equal f l → (TrueClaim f l → ⊥) → OneLucky f l
    pub at_fault : (Equal f l → ⊥) → (TrueClaim f l → ⊥) ⊎ (HonestReply f l → ⊥)

  module _ (s : Claim K) (p : Reply K) (α β z : K) (rest : List (Move K)) (near : 6 * s.n ≤ f.span) (some : z ≡ f.nil → ⊥) where
    abbrev last : List (Move K)
    last = entries f laws s p α β (draws z ∷ rest)

    decided_at : Decides (accepts f s.n (lists_of last) α β z) (Equal f last)
    decided_at =
        Decides-like (accepts f s.n (lists_of last) α β z) (λ e. record { E1 = e.0; E2 = e.1.0; E3 = e.1.1 }) (λ e. (e.E1, (e.E2, e.E3)))
        (Decides-and (first_test f s.n (lists_of last) α z) _ (decides_same f laws _ _)
        (Decides-and (second_test f s.n (lists_of last) α z) (third_test f s.n (lists_of last) β z) (settled_if (3 * s.n) _ z _ _ _ _ (omega arith) some) (settled_if (s.n - 1) _ z _ _ _ _ (omega arith) some)))

  ended : (l : List (Move K)) → length l ≡ 12 → Formed f l → Ended l
  ended l h d =
      at_ten f laws 1 l Ended (omega arith) d (λ s p α β rest shaped fits near b r.
      at_draw f laws 10 s.m s.n 0 rest (λ y. Ended (entries f laws s p α β y)) refl b r (λ z more some b' r'. record {
        decided = decided_at s p α β z more near some;
        lucky_if = λ e h. theorems.sound f laws s p α β z shaped fits some e h;
        at_fault = λ e. theorems.at_fault f laws s p α β z shaped fits near some e;
      }))

  -- the verdict of a ledger
  verdict_told : (l : List (Move K)) → Formed f l → Verdict f l (length l) (verdict_at f (reading_of l))
  verdict_told l d =
      elim (dec_lt (length l) 12) [
        | yes k ↦ inl (k, verdict_early f (reading_of l) k)
        | no k ↦ let e = formed_short f laws l d in judged (omega arith) (accepts f (n_of l) (lists_of l) (alpha_of f l) (beta_of f l) (z_of f l)) refl
      ]
    where
      late : length l ≡ 12 → verdict_at f (reading_of l) ≡ verdict_by (accepts f (n_of l) (lists_of l) (alpha_of f l) (beta_of f l) (z_of f l))
      late h =
          let e : ltb (length l) 12 ≡ false = grind (arith, nat_tests) in
          ap (λ y. cond y 0 (verdict_by (accepts f (n_of l) (lists_of l) (alpha_of f l) (beta_of f l) (z_of f l)))) e

      judged : length l ≡ 12 → (y : Bool) → accepts f (n_of l) (lists_of l) (alpha_of f l) (beta_of f l) (z_of f l) ≡ y → Verdict f l (length l) (verdict_at f (reading_of l))
      judged h true e = inr (inl (h, late h ∙ ap verdict_by e, (ended l h d).decided.0 e))
      judged h false e = inr (inr (h, late h ∙ ap verdict_by e, not_from_Decides _ (ended l h d).decided e))

  accepted_equal : (l : List (Move K)) (t v : ℕ) → Verdict f l t v → v ≡ 1 → (t ≡ 12) × Equal f l
  accepted_equal l t v (inl a) h = let e = a.1 in absurd (omega arith)
  accepted_equal l t v (inr (inl a)) h = (a.0, a.2)
  accepted_equal l t v (inr (inr a)) h = let e = a.1 in absurd (omega arith)

  turned_down_unequal : (l : List (Move K)) (t v : ℕ) → Verdict f l t v → v ≡ 2 → (t ≡ 12) × (Equal f l → ⊥)
  turned_down_unequal l t v (inl a) h = let e = a.1 in absurd (omega arith)
  turned_down_unequal l t v (inr (inl a)) h = let e = a.1 in absurd (omega arith)
  turned_down_unequal l t v (inr (inr a)) h = (a.0, a.2)

  -- the state that a run's ledger names keeps the law
  keeps : (st : Standing K) (calls : List (Move K)) → Law f st calls (state_at f st (reading_of (ledger_of f st calls)) (refused_of f st calls))
  keeps st calls =
      let l = ledger_of f st calls in
      let d = formed_from f laws st [] calls tt in
      let v = verdict_told l d in
      record {
        turn_is = refl;
        verdict_is = v;
        count_is = refl;
        all_told = all_told f st calls;
        accepted_false = λ h. let e = accepted_equal l _ _ v h in (ended l e.0 d).lucky_if e.1;
        grows = grows f st calls;
        entered_once = entered_once f st calls;
        few_alpha = λ h. few_alpha_at l;
        few_beta = λ h. few_beta_at l;
        few_z = λ h. few_z_at l h d;
        turned_down = λ h. let e = turned_down_unequal l _ _ v h in (ended l e.0 d).at_fault e.1;
        named = record { stands = refl; m_is = refl; n_is = refl; alpha_is = refl; beta_is = refl; z_is = refl };
      }

  pub law_of_runs : RunsKeepTheLaw f
  law_of_runs st calls =
      let l = ledger_of f st calls in
      let is : ran f (fresh f st) calls ≡ state_at f st (reading_of l) (refused_of f st calls) =
      ran_at f laws st [] calls 0 tt ∙ ap (λ k. state_at f st (reading_of l) k) (zero-add (refused_of f st calls)) in
      subst (λ (s : State K). Law f st calls s) (sym is) (keeps st calls)
