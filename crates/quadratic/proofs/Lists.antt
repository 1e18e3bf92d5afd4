-- A list that was read off another, as one over the index; what a chain collects, by what the items mean; and zeros at the end.
use Rattle.std.proofs.Common.{◌≡◌, ℕ, zero, suc, ◌+◌, ◌-◌, ◌<◌, ◌≤◌, List, [], ◌∷◌, ◌++◌, map, length, get_or, take, replicate, vec_items, Option, Result, Vec, refl, ap, ◌∙◌, ap₂, subst, arith}
use Rattle.std.specs.List.{range_with_len}
use Rattle.std.specs.Result.{IfOk}
use Rattle.std.proofs.lemmas.Iterator.{YieldsList, IsCollectResult}
use Rattle.std.proofs.lemmas.Iterator.Consumers.{map_from_collect}
use Rattle.std.proofs.lemmas.List.{map-append, take_all}

module _ {A K : Type 0} (h : A → K) (t : ℕ → K) where
  pub map-by_index : (a : ℕ) (xs : List A) (d : A) → ((k j : ℕ) → k < length xs → a + k ≡ j → h (get_or xs k d) ≡ t j) → map h xs ≡ map t (range_with_len a (length xs))
  map-by_index a [] d e = refl
  map-by_index a (x ∷ xs) d e = ap₂ ◌∷◌ (e 0 a (omega arith) (omega arith)) (map-by_index (a + 1) xs d (λ k j l is. e (suc k) j (omega arith) (omega arith)))

  pub list_from_collect : {S X Z E : Type 0} {steps : S → Option X → S → Type 0} {mean : X → K} {s : S} (a : ℕ) (xs : List A) (d : A) (r : Result (Vec X Z) E) → IsCollectResult steps s r → YieldsList steps mean s (map h xs)
      → ((k j : ℕ) → k < length xs → a + k ≡ j → h (get_or xs k d) ≡ t j) → IfOk r (λ w. map mean (vec_items w) ≡ map t (range_with_len a (length xs)))
  list_from_collect {mean = mean} a xs d r ran road e = subst (λ all. IfOk r (λ w. map mean (vec_items w) ≡ all)) (map-by_index a xs d e) (map_from_collect r ran road)

module _ {X K : Type 0} (mean : X → K) where
  map_replicate : (n : ℕ) (x : X) → map mean (replicate n x) ≡ replicate n (mean x)
  map_replicate zero x = refl
  map_replicate (suc n) x = ap (λ l. mean x ∷ l) (map_replicate n x)

  -- a list filled up with x to n items
  pub filled_up : (xs ys : List X) (n : ℕ) (x : X) (k : K) → length xs ≤ n → mean x ≡ k → ys ≡ take n xs ++ replicate (n - length xs) x → map mean ys ≡ map mean xs ++ replicate (n - length xs) k
  filled_up xs ys n x k h e is =
      ap (map mean) is ∙ map-append mean (take n xs) (replicate (n - length xs) x)
      ∙ ap₂ ◌++◌ (ap (map mean) (take_all n xs h)) (map_replicate (n - length xs) x ∙ ap (replicate (n - length xs)) e)
