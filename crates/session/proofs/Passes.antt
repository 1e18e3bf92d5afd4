-- A run, one call on and at its end.
use Rattle.std.proofs.Common.{◌≡◌, ℕ, ◌+◌, ◌<◌, ◌≤◌, List, map, length, get_or, drop, sym, ap, ◌∙◌}
use Rattle.std.proofs.lemmas.List.{at_drop_more, at_drop_all}
use Rattle.field.specs.Field.{Ops}
use Rattle.ledger.specs.declared.call.Call.{Call}
use Rattle.ledger.specs.Ledger.{move_of}
use Rattle.ledger.specs.States.{State, stepped, ran}

module _ {E K : Type 0} (f : Ops K) (mean : E → K) (cs : List (Call E)) where
  pub ran_next : (s : State K) (i : ℕ) (d : Call E) → i < length cs → d ≡ get_or cs i d → ran f (stepped f s (move_of mean d)) (map (move_of mean) (drop (i + 1) cs)) ≡ ran f s (map (move_of mean) (drop i cs))
  ran_next s i d h read =
      ap (λ x. ran f (stepped f s (move_of mean x)) (map (move_of mean) (drop (i + 1) cs))) read ∙ sym (at_drop_more (λ ys. ran f s (map (move_of mean) ys)) cs i d h)

  pub ran_end : (s : State K) (i : ℕ) → length cs ≤ i → ran f s (map (move_of mean) (drop i cs)) ≡ s
  ran_end s i h = at_drop_all (λ ys. ran f s (map (move_of mean) ys)) cs i h
