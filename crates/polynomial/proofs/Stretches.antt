-- The middle product's entry k, as the inner product of what stands from k - d on in one list and from d - k on in the other.
use Rattle.std.proofs.Common.{◌≡◌, ℕ, zero, suc, ◌+◌, ◌-◌, ◌<◌, ◌≤◌, min, ◌⊎◌, inl, inr, List, [], ◌∷◌, map, length, drop, sym, refl, ap, ◌∙◌, ap₂, le_refl, arith}
use Rattle.std.specs.List.{between}
use Rattle.std.proofs.lemmas.List.{length-map, drop-map, get_or-drop, length-drop}
use Rattle.std.proofs.lemmas.Slice.{between_to_end}
use Rattle.field.specs.Field.{Ops, Laws}
use Rattle.field.proofs.Ring.{nil_mul, mul_nil, nil_add}
use Rattle.algebra.specs.Sums.{sum}
use Rattle.algebra.specs.Polynomials.{coeff, middle}
use Rattle.algebra.proofs.Sums.{sum_ext, sum_nil}
use Rattle.algebra.proofs.Polynomials.{middle_term, middle_met, middle_none}
use Rattle.polynomial.specs.Cells.{inner}

module _ {K : Type 0} (f : Ops K) (laws : Laws f) where
  -- the first p terms are zero
  sum_skip : (p n t : ℕ) (c : ℕ → K) → t ≡ p + n → ((i : ℕ) → i < p → c i ≡ f.nil) → sum f t c ≡ sum f n (λ i. c (p + i))
  sum_skip zero n t c e h =
      let g : t ≡ n = omega arith in
      ap (λ m. sum f m c) g ∙ sum_ext f laws n c (λ i. c (0 + i)) (λ i l. let o : i ≡ 0 + i = omega arith in ap c o)
  sum_skip (suc p) n zero c e h = absurd (omega arith)
  sum_skip (suc p) n (suc t) c e h =
      ap₂ f.add (h 0 (omega arith)) (sum_skip p n t (λ i. c (suc i)) (omega arith) (λ i l. h (suc i) (omega arith)))
      ∙ nil_add f laws (sum f n (λ i. c (suc (p + i))))
      ∙ sum_ext f laws n (λ i. c (suc (p + i))) (λ i. c (suc p + i)) (λ i l. let o : suc (p + i) ≡ suc p + i = omega arith in ap c o)

  -- the terms from n on are zero
  sum_stop : (n t : ℕ) (c : ℕ → K) → n ≤ t → ((i : ℕ) → n ≤ i → i < t → c i ≡ f.nil) → sum f t c ≡ sum f n c
  sum_stop zero t c l h = sum_nil f laws t c (λ i k. h i (omega arith) k)
  sum_stop (suc n) zero c l h = absurd (omega arith)
  sum_stop (suc n) (suc t) c l h = ap (f.add (c 0)) (sum_stop n t (λ i. c (suc i)) (omega arith) (λ i k b. h (suc i) (omega arith) (omega arith)))

  -- entry k of the middle product, pair by pair
  pub stretch : (d k n : ℕ) (a b : ℕ → K) → n + (k - d) + (d - k) ≡ suc d → middle f d a b k ≡ sum f n (λ t. f.mul (a (k - d + t)) (b (d - k + t)))
  stretch d k n a b e =
      let term = λ (j : ℕ). middle_term f laws d a b k j in
      sum_skip (d - k) (n + (k - d)) (suc d) term (omega arith) (λ j l. middle_none f laws d a b k j (λ i h o. omega arith))
      ∙ sum_stop n (n + (k - d)) (λ t. term (d - k + t)) (omega arith) (λ t l h. middle_none f laws d a b k (d - k + t) (λ i g o. omega arith))
      ∙ sum_ext f laws n (λ t. term (d - k + t)) (λ t. f.mul (a (k - d + t)) (b (d - k + t)))
      (λ t l. middle_met f laws d a b k (d - k + t) (k - d + t) (omega arith) (omega arith))

  -- the inner product by its coefficients
  pub inner_sum : (a b : List K) (n : ℕ) → min (length a) (length b) ≤ n → inner f a b ≡ sum f n (λ t. f.mul (coeff f a t) (coeff f b t))
  inner_sum [] b n h = sym (sum_nil f laws n (λ t. f.mul (coeff f [] t) (coeff f b t)) (λ t l. nil_mul f laws (coeff f b t)))
  inner_sum (x ∷ a) [] n h = sym (sum_nil f laws n (λ t. f.mul (coeff f (x ∷ a) t) (coeff f [] t)) (λ t l. mul_nil f laws (coeff f (x ∷ a) t)))
  inner_sum (x ∷ a) (y ∷ b) zero h = absurd (omega arith)
  inner_sum (x ∷ a) (y ∷ b) (suc n) h = ap (f.add (f.mul x y)) (inner_sum a b n (omega arith))

  coeff_drop : (p : List K) (i t : ℕ) → coeff f (drop i p) t ≡ coeff f p (i + t)
  coeff_drop p i t = get_or-drop i p t f.nil

  pub inner_end : (a b : List K) → (length a ≡ 0) ⊎ (length b ≡ 0) → inner f a b ≡ f.nil
  inner_end [] b h = refl
  inner_end (x ∷ a) [] h = refl
  inner_end (x ∷ a) (y ∷ b) (inl e) = absurd (omega arith)
  inner_end (x ∷ a) (y ∷ b) (inr e) = absurd (omega arith)

  middle_inner : (d k : ℕ) (a b : List K) → length a ≡ suc d → length b ≡ suc d → k ≤ d + d
      → inner f (drop (k - d) a) (drop (d - k) b) ≡ middle f d (coeff f a) (coeff f b) k
  middle_inner d k a b ha hb h =
      let n : ℕ = suc d - (k - d) - (d - k) in
      inner_sum (drop (k - d) a) (drop (d - k) b) n (omega (arith, length-drop (k - d) a, length-drop (d - k) b))
      ∙ sum_ext f laws n (λ t. f.mul (coeff f (drop (k - d) a) t) (coeff f (drop (d - k) b) t)) (λ t. f.mul (coeff f a (k - d + t)) (coeff f b (d - k + t)))
      (λ t l. ap₂ f.mul (coeff_drop a (k - d) t) (coeff_drop b (d - k) t))
      ∙ sym (stretch d k n (coeff f a) (coeff f b) (omega arith))

  module _ {X : Type 0} (mean : X → K) where
    rest_of : (xs : List X) (i : ℕ) → map mean (between i (length xs) xs) ≡ drop i (map mean xs)
    rest_of xs i = ap (map mean) (between_to_end xs i (length xs) (le_refl (length xs))) ∙ sym (drop-map mean i xs)

    -- the entry by the parts of two slices
    pub middle_parts : (d k s p : ℕ) (xs ys : List X) → s ≡ k - d → p ≡ d - k → length xs ≡ d + 1 → length ys ≡ d + 1 → k ≤ d + d
        → inner f (map mean (between s (length xs) xs)) (map mean (between p (length ys) ys)) ≡ middle f d (coeff f (map mean xs)) (coeff f (map mean ys)) k
    middle_parts d k s p xs ys es ep hx hy h =
        ap₂ (inner f) (rest_of xs s ∙ ap (λ i. drop i (map mean xs)) es) (rest_of ys p ∙ ap (λ i. drop i (map mean ys)) ep)
        ∙ middle_inner d k (map mean xs) (map mean ys) (length-map xs mean ∙ (omega arith)) (length-map ys mean ∙ (omega arith)) h
