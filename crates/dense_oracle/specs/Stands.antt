-- What a dense oracle's store says of its meaning.
use Rattle.std.specs.Prelude.{◌≡◌, ℕ, ◌+◌, ◌≤◌, true, List, [], ◌∷◌, map, length, Some, None, option_map, slice_get, refl}
use Rattle.std.proofs.Common.{ap, ap₂, ◌∙◌, sym, arith}
use Rattle.std.proofs.lemmas.Bool.Decides.{nat_tests}
use Rattle.std.proofs.lemmas.List.{length-append, length-map}
use Rattle.std.proofs.lemmas.Option.{slice_get-map}
use Rattle.oracle.specs.Admission.{refusal_of}
use Rattle.oracle.specs.Store.{fits, items_of, lists_of, room_of}
use Rattle.oracle.specs.Standing.{Sound, needed, free_of}
use Rattle.oracle.specs.Tables.{Kept}
use Rattle.oracle.proofs.Admitted.{admitted}
use Rattle.oracle.proofs.StoreLemmas as stores
use Rattle.dense_oracle.specs.Dense.{held, dense_stand}
use Rattle.dense_oracle.specs.declared.store.DenseOracle.{DenseOracle}

needed_items : {X K : Type 0} (mean : X → K) (ps : List (Kept X)) → needed length (map (map mean) (map (λ p. p.items) ps)) ≡ length (items_of ps)
needed_items mean [] = refl
needed_items mean (p ∷ ps) = ap₂ ◌+◌ (length-map p.items mean) (needed_items mean ps) ∙ sym (length-append p.items (items_of ps))

-- what is stored has cells
pub stored_cells : {X : Type 0} (s : DenseOracle X) → length (items_of (lists_of s.store)) ≤ s.cells
stored_cells s = omega (arith, stores.stored s.store, s.stocked)

module _ {X K : Type 0} (s : DenseOracle X) (mean : X → K) where
  -- the polynomials have as many coefficients as items are stored
  pub used : needed length (map (map mean) (held s)) ≡ length (items_of (lists_of s.store))
  used = needed_items mean (lists_of s.store)

  pub count : length (map (map mean) (held s)) ≡ length (lists_of s.store)
  count = length-map (held s) (map mean) ∙ length-map (lists_of s.store) (λ p. p.items)

  pub sound : Sound (dense_stand s mean)
  sound = record {
    few = omega (arith, count, stores.few s.store);
    small = s.small;
    room = omega (arith, used, stored_cells s);
    ruled = λ p h. omega arith;
  }

  -- a list of n coefficients that no refusal fits has room on the store
  pub fits_where_none : (n : ℕ) → refusal_of (length (lists_of s.store)) n n (free_of (dense_stand s mean)) ≡ None → fits (lists_of s.store) (room_of s.store) n ≡ true
  fits_where_none n none =
      let a = admitted (length (lists_of s.store)) n n (free_of (dense_stand s mean)) none in
      let few = a.few in
      let short = a.short in
      let room : length (items_of (lists_of s.store)) + n ≤ room_of s.store = omega (arith, a.room, used, stored_cells s, stores.most s.store, s.stocked) in
      grind (arith, nat_tests)

  -- list k means what its items p mean
  pub held_at : (k : ℕ) (p : List X) → option_map (λ q. q.items) (slice_get (lists_of s.store) k) ≡ Some p → slice_get (map (map mean) (held s)) k ≡ Some (map mean p)
  held_at k p h = slice_get-map (map mean) (held s) k ∙ ap (option_map (map mean)) (slice_get-map (λ q. q.items) (lists_of s.store) k ∙ h)
