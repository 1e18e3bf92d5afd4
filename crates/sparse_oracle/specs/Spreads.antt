-- Lists of terms, each with the number of coefficients that it spreads to.
use Rattle.std.specs.Prelude.{◌≡◌, ℕ, zero, suc, ◌+◌, true, ◌&&◌, List, [], ◌∷◌, ◌++◌, Some, slice_get, refl}
use Rattle.std.proofs.Common.{ap, ap₂, ◌∙◌, sym, arith}
use Rattle.std.proofs.lemmas.List.{map-append}
use Rattle.std.proofs.lemmas.List.Folds.{list_all-append}
use Rattle.std.proofs.lemmas.Option.{none-some, same_Some}
use Rattle.field.specs.Field.{Ops, Laws}
use Rattle.oracle.specs.Store.{items_of}
use Rattle.oracle.specs.Standing.{needed}
use Rattle.oracle.specs.Tables.{Kept}
use Rattle.sparse_oracle.specs.Terms.{Spells, all_climb, climbs, coefficients_of, nonzero, spread, spreads}
use Rattle.sparse_oracle.specs.declared.term.Term.{Term}
use Rattle.sparse_oracle.specs.Spelling.{length_spread, nonzero_append, spread_count}

pub needed_push : {K : Type 0} (rule : List K → ℕ) (ps : List (List K)) (p : List K) → needed rule (ps ++ (p ∷ [])) ≡ needed rule ps + rule p
needed_push rule [] p = omega arith
needed_push rule (q ∷ ps) p = omega (arith, needed_push rule ps p)

-- what ascending says of the first list
record First {X : Type 0} (p : Kept (Term X)) (ps : List (Kept (Term X))) : Type 0 where
  here : climbs 0 p.items p.long ≡ true
  rest : all_climb ps ≡ true

first : {X : Type 0} (p : Kept (Term X)) (ps : List (Kept (Term X))) → all_climb (p ∷ ps) ≡ true → First p ps
first p ps h = record { here = grind (arith, h); rest = grind (arith, h) }

pub climb_push : {X : Type 0} (ps : List (Kept (Term X))) (p : Kept (Term X)) → all_climb ps ≡ true → climbs 0 p.items p.long ≡ true → all_climb (ps ++ (p ∷ [])) ≡ true
climb_push ps p h k = list_all-append (λ q. climbs 0 q.items q.long) ps (p ∷ []) ∙ ap₂ ◌&&◌ h (ap (λ b. b && true) k)

pub climbs_at : {X : Type 0} (ps : List (Kept (Term X))) (k : ℕ) (p : Kept (Term X)) → all_climb ps ≡ true → slice_get ps k ≡ Some p → climbs 0 p.items p.long ≡ true
climbs_at [] k p h e = absurd (none-some p e)
climbs_at (q ∷ ps) zero p h e = ap (λ r. climbs 0 r.items r.long) (sym (same_Some q p e)) ∙ (first q ps h).here
climbs_at (q ∷ ps) (suc k) p h e = climbs_at ps k p (first q ps h).rest e

module _ {X K : Type 0} (f : Ops K) (mean : X → K) where
  -- a list is what its terms spell
  pub spells_from_climbs : (p : Kept (Term X)) → climbs 0 p.items p.long ≡ true → Spells f mean p.items (spread f mean p.long 0 p.items)
  spells_from_climbs p h =
      let l = length_spread f mean p.long 0 p.items in
      record { ascend = ap (climbs 0 p.items) l ∙ h; filled = ap (λ n. spread f mean n 0 p.items) l }

  -- the lists need as many cells as their terms that are not zero
  pub spreads_needed : Laws f → (ps : List (Kept (Term X))) → all_climb ps ≡ true → needed (nonzero f) (spreads f mean ps) ≡ nonzero f (coefficients_of mean (items_of ps))
  spreads_needed laws [] h = refl
  spreads_needed laws (p ∷ ps) h =
      let s = first p ps h in
      ap₂ ◌+◌ (spread_count f mean laws p.long 0 p.long p.items (omega arith) s.here) (spreads_needed laws ps s.rest)
      ∙ sym (nonzero_append f (coefficients_of mean p.items) (coefficients_of mean (items_of ps)))
      ∙ ap (nonzero f) (sym (map-append (λ t. mean t.coefficient) p.items (items_of ps)))
