-- A ledger only grows, by one entry at a call, and each call is entered or counted.
use Rattle.std.proofs.Common.{◌≡◌, ℕ, zero, suc, ◌+◌, ◌<◌, ◌≤◌, List, [], ◌∷◌, ◌++◌, length, take, Some, None, Option, sym, refl, ap, ◌∙◌, arith}
use native.Mathlib.Decide.{dec_lt}
use Rattle.std.proofs.lemmas.List.{append_assoc, append-nil, length_push, take_at}
use Rattle.field.specs.Field.{Ops}
use Rattle.polynomial.specs.Refusals.{Told}
use Rattle.oracle.specs.Standing.{Standing, after_by}
use Rattle.ledger.specs.Ledger.{Move, refusal, refusals_by, enter, ledger_from, ledger_of, refused_from, refused_of}
use Rattle.ledger.specs.Law.{Grows, EnteredOnce}

module _ {K : Type 0} (f : Ops K) (st : Standing K) where
  -- what one call adds
  added : (o : Option Told) (l : List (Move K)) (c : Move K) → (m : List (Move K)) × (after_by o l (l ++ (c ∷ [])) ≡ l ++ m)
  added (Some t) l c = ([], sym (append-nil l))
  added None l c = (c ∷ [], refl)

  -- what calls add
  more : (l cs : List (Move K)) → (m : List (Move K)) × (ledger_from f st l cs ≡ l ++ m)
  more l [] = ([], sym (append-nil l))
  more l (c ∷ cs) =
      let a = added (refusal f st l c) l c in
      let b = more (enter f st l c) cs in
      (a.0 ++ b.0, b.1 ∙ ap (λ y. y ++ b.0) a.1 ∙ append_assoc l a.0 b.0)

  front : (l cs : List (Move K)) → take (length l) (ledger_from f st l cs) ≡ l
  front l cs = let a = more l cs in ap (take (length l)) a.1 ∙ take_at l a.0 (length l) refl

  grows_from : (k : ℕ) (l cs : List (Move K)) → (m : List (Move K)) × (ledger_from f st l cs ≡ ledger_from f st l (take k cs) ++ m)
  grows_from zero l cs = more l cs
  grows_from (suc k) l [] = ([], sym (append-nil l))
  grows_from (suc k) l (c ∷ cs) = grows_from k (enter f st l c) cs

  pub grows : (calls : List (Move K)) → Grows f st calls (ledger_of f st calls)
  grows calls k =
      let a = grows_from k [] calls in
      let l = ledger_of f st (take k calls) in
      ap (take (length l)) a.1 ∙ take_at l a.0 (length l) refl

  -- a call is refused, or the ledger is one longer
  longer : (o : Option Told) (l : List (Move K)) (c : Move K) → length (after_by o l (l ++ (c ∷ []))) + refusals_by o ≡ length l + 1
  longer (Some t) l c = refl
  longer None l c = let e = length_push l c in omega arith

  told_from : (l cs : List (Move K)) → length (ledger_from f st l cs) + refused_from f st l cs ≡ length l + length cs
  told_from l [] = refl
  told_from l (c ∷ cs) =
      let a = longer (refusal f st l c) l c in
      let b = told_from (enter f st l c) cs in
      omega arith

  pub all_told : (calls : List (Move K)) → length (ledger_of f st calls) + refused_of f st calls ≡ length calls
  all_told calls = let a = told_from [] calls in omega arith

  -- the call that made entry j
  entered_from : (l cs : List (Move K)) (j : ℕ) → length l ≤ j → j < length (ledger_from f st l cs)
      → (k : ℕ) × (ledger_from f st l (take k cs) ≡ take j (ledger_from f st l cs)) × (ledger_from f st l (take (suc k) cs) ≡ take (suc j) (ledger_from f st l cs))
  entered_from l [] j a b = absurd (omega arith)
  entered_from l (c ∷ cs) j a b =
      elim (dec_lt j (length (enter f st l c))) [
        | yes h ↦ here h
        | no h ↦ let r = entered_from (enter f st l c) cs j (omega arith) b in (suc r.0, r.1, r.2)
      ]
    where
      here : j < length (enter f st l c)
          → (k : ℕ) × (ledger_from f st l (take k (c ∷ cs)) ≡ take j (ledger_from f st l (c ∷ cs))) × (ledger_from f st l (take (suc k) (c ∷ cs)) ≡ take (suc j) (ledger_from f st l (c ∷ cs)))
      here h =
          let e = longer (refusal f st l c) l c in
          let before : length l ≡ j = omega arith in
          let after : length (enter f st l c) ≡ suc j = omega arith in (
            0,
            sym (front l (c ∷ cs)) ∙ ap (λ i. take i (ledger_from f st l (c ∷ cs))) before,
            sym (front (enter f st l c) cs) ∙ ap (λ i. take i (ledger_from f st l (c ∷ cs))) after,
          )

  pub entered_once : (calls : List (Move K)) → EnteredOnce f st calls (ledger_of f st calls)
  entered_once calls j h = entered_from [] calls j (omega arith) h
