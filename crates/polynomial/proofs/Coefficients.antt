-- What a value that was read from a slice means as a coefficient, and the cells after a write.
use Rattle.std.proofs.Common.{◌≡◌, ℕ, ◌<◌, ◌≤◌, ◌≢◌, List, map, length, get_or, set, sym, ap, ◌∙◌, arith}
use Rattle.std.proofs.lemmas.List.{get_or-map, get_or_past, length-map, map-set, get_or-set_same, get_or-set_other}
use Rattle.field.specs.Field.{Ops}
use Rattle.algebra.specs.Polynomials.{coeff}

module _ {X K : Type 0} (f : Ops K) (mean : X → K) (xs : List X) where
  pub coeff_at : (i : ℕ) (y : X) → i < length xs → mean (get_or xs i y) ≡ coeff f (map mean xs) i
  coeff_at i y h = sym (get_or-map mean xs i y f.nil h)

  pub coeff_read : (i : ℕ) (y : X) → i < length xs → y ≡ get_or xs i y → mean y ≡ coeff f (map mean xs) i
  coeff_read i y h e = ap mean e ∙ coeff_at i y h

  pub coeff_beyond : (i : ℕ) → length xs ≤ i → coeff f (map mean xs) i ≡ f.nil
  coeff_beyond i h = get_or_past (map mean xs) i f.nil (omega (arith, length-map xs mean))

  pub coeff_set : (i : ℕ) (y : X) → i < length xs → coeff f (map mean (set xs i y)) i ≡ mean y
  coeff_set i y h =
      let l : i < length (map mean xs) = omega (arith, length-map xs mean) in
      ap (λ ks. coeff f ks i) (map-set mean xs i y) ∙ get_or-set_same (map mean xs) i (mean y) f.nil l

  pub coeff_set_other : (i k : ℕ) (y : X) → k ≢ i → coeff f (map mean (set xs i y)) k ≡ coeff f (map mean xs) k
  coeff_set_other i k y h = ap (λ ks. coeff f ks k) (map-set mean xs i y) ∙ get_or-set_other (map mean xs) i k (mean y) f.nil h
