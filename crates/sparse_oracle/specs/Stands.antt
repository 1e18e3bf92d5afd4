-- What the invariant of a sparse oracle says of its meaning.
use Rattle.std.specs.Prelude.{◌≡◌, ℕ, ◌+◌, ◌-◌, ◌<◌, ◌≤◌, true, List, [], ◌∷◌, ◌++◌, map, length, Some, None, Option, option_map, slice_get, refl}
use Rattle.std.proofs.Common.{sym, ap, ap₂, subst, ◌∙◌, arith}
use Rattle.std.proofs.lemmas.Bool.Decides.{nat_tests}
use Rattle.std.proofs.lemmas.List.{length-map, map_push}
use Rattle.std.proofs.lemmas.Option.{slice_get-map, none-some, same_Some}
use Rattle.field.specs.Field.{Ops, Laws}
use Rattle.oracle.specs.Admission.{refusal_of}
use Rattle.oracle.specs.Store.{fits, items_of, lists_of, room_of, stored_of}
use Rattle.oracle.specs.Standing.{Sound, fix_refusal, free_of, needed}
use Rattle.oracle.specs.Tables.{Kept, kept}
use Rattle.oracle.proofs.Admitted.{admitted}
use Rattle.oracle.proofs.StoreLemmas as stores
use Rattle.sparse_oracle.specs.Sparse.{listed, sparse_stand}
use Rattle.sparse_oracle.specs.Terms.{Spells, all_climb, coefficients_of, nonzero, spread, spreads, terms_of}
use Rattle.sparse_oracle.specs.declared.store.SparseOracle.{SparseOracle}
use Rattle.sparse_oracle.specs.declared.term.Term.{Term}
use Rattle.sparse_oracle.specs.Spelling.{nonzero_le, terms_climb, terms_count, terms_spell}
use Rattle.sparse_oracle.specs.Spreads.{climb_push, climbs_at, needed_push, spells_from_climbs, spreads_needed}

module _ {X K : Type 0} (s : SparseOracle X) (f : Ops K) (mean : X → K) where
  pub count : length (listed s f mean) ≡ length (lists_of s.store)
  count = length-map (lists_of s.store) (λ p. spread f mean p.long 0 p.items)

  -- the lists need the cells of their terms that are not zero
  pub used : Laws f → needed (nonzero f) (listed s f mean) ≡ nonzero f (coefficients_of mean (items_of (lists_of s.store)))
  used laws = spreads_needed f mean laws (lists_of s.store) s.climb

  pub used_stored : Laws f → needed (nonzero f) (listed s f mean) ≤ stored_of s.store
  used_stored laws =
      let ts = items_of (lists_of s.store) in
      omega (arith, used laws, nonzero_le f (coefficients_of mean ts), length-map ts (λ t. mean t.coefficient))

  pub sound : Laws f → Sound (sparse_stand s f mean)
  sound laws = record {
    few = omega (arith, count, stores.few s.store);
    small = omega (arith, used_stored laws, s.small);
    room = omega arith;
    ruled = λ p h. omega (arith, nonzero_le f p);
  }

  -- a list that no refusal fits has spare cells, and room on the store
  pub record Roomy (p : List X) : Type 0 where
    pub short : length p ≤ 16384
    pub spare : nonzero f (map mean p) ≤ s.spare
    pub room : fits (lists_of s.store) (room_of s.store) (nonzero f (map mean p)) ≡ true

  pub roomy : (p : List X) → fix_refusal (sparse_stand s f mean) (map mean p) ≡ None → Roomy p
  roomy p none =
      let n = nonzero f (map mean p) in
      let a = admitted (length (listed s f mean)) (length (map mean p)) n (free_of (sparse_stand s f mean)) none in
      let few : length (lists_of s.store) < 16 = omega (arith, a.few, count) in
      let short : length p ≤ 16384 = omega (arith, a.short, length-map p mean) in
      let spare : n ≤ s.spare = omega (arith, a.room) in
      let small : n ≤ 16384 = omega (arith, a.short, nonzero_le f (map mean p)) in
      let room : stored_of s.store + n ≤ room_of s.store = omega (arith, spare, few, small, stores.most s.store, s.stocked) in
      record { short = short; spare = spare; room = grind (arith, nat_tests) }

  -- list k is what its terms ts spell
  pub listed_at : (k : ℕ) (ts : List (Term X)) → option_map (λ q. q.items) (slice_get (lists_of s.store) k) ≡ Some ts → (p : List K) × Spells f mean ts p × (slice_get (listed s f mean) k ≡ Some p)
  listed_at k ts h = at (slice_get (lists_of s.store) k) refl h
    where
      at : (o : Option (Kept (Term X))) → slice_get (lists_of s.store) k ≡ o → option_map (λ q. q.items) o ≡ Some ts → (p : List K) × Spells f mean ts p × (slice_get (listed s f mean) k ≡ Some p)
      at None e i = absurd (none-some ts i)
      at (Some q) e i =
          let P : List (Term X) → Type 0 = λ us. Spells f mean us (spread f mean q.long 0 q.items) in (
            spread f mean q.long 0 q.items,
            subst P (same_Some q.items ts i) (spells_from_climbs f mean q (climbs_at (lists_of s.store) k q s.climb e)),
            slice_get-map (λ r. spread f mean r.long 0 r.items) (lists_of s.store) k ∙ ap (option_map (λ r. spread f mean r.long 0 r.items)) e,
          )

  -- where nothing is refused by what stands, its length and needs, and the free cells, no refusal fits
  pub unrefused : (p : List X) (l n r : ℕ) → l ≡ length (lists_of s.store) → n ≡ nonzero f (map mean p) → r ≡ free_of (sparse_stand s f mean)
      → refusal_of l (length p) n r ≡ None → fix_refusal (sparse_stand s f mean) (map mean p) ≡ None
  unrefused p l n r el en er none =
      ap₂ (λ a b. refusal_of a b (nonzero f (map mean p)) (free_of (sparse_stand s f mean))) (count ∙ sym el) (length-map p mean)
      ∙ ap₂ (λ m c. refusal_of l (length p) m c) (sym en) (sym er)
      ∙ none

  -- with the terms of a list behind the others the exponents still ascend, and that list stands behind the others
  module _ (p : List X) (ps : List (Kept (Term X))) (is : ps ≡ lists_of s.store ++ (kept (length p) (terms_of f mean 0 p) ∷ [])) where
    pub climb_more : all_climb ps ≡ true
    climb_more = ap all_climb is ∙ climb_push (lists_of s.store) (kept (length p) (terms_of f mean 0 p)) s.climb (terms_climb f mean 0 (length p) p (omega arith))

    pub listed_more : Laws f → spreads f mean ps ≡ listed s f mean ++ (map mean p ∷ [])
    listed_more laws =
        ap (spreads f mean) is
        ∙ map_push (λ q. spread f mean q.long 0 q.items) (lists_of s.store) (kept (length p) (terms_of f mean 0 p))
        ∙ ap (λ ks. listed s f mean ++ (ks ∷ [])) (terms_spell f mean laws 0 p)

    -- the cells in all stay
    pub cells_kept : nonzero f (map mean p) ≤ s.spare → s.spare - nonzero f (map mean p) + needed (nonzero f) (listed s f mean ++ (map mean p ∷ [])) ≡ s.spare + needed (nonzero f) (listed s f mean)
    cells_kept w = omega (arith, needed_push (nonzero f) (listed s f mean) (map mean p))

    pub stored_more : length (items_of ps) ≡ stored_of s.store + nonzero f (map mean p)
    stored_more =
        ap (λ qs. length (items_of qs)) is
        ∙ stores.stored_push (lists_of s.store) (kept (length p) (terms_of f mean 0 p))
        ∙ ap (λ n. stored_of s.store + n) (terms_count f mean 0 p)
