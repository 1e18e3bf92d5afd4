-- Values by Horner's rule, and powers.
use Rattle.std.proofs.Common.{◌≡◌, ℕ, zero, suc, ◌+◌, ◌-◌, ◌<◌, ◌≤◌, List, [], ◌∷◌, length, sym, refl, ap, ◌∙◌, ap₂, arith}
use Rattle.field.specs.Field.{Ops, Laws, power}
use Rattle.field.proofs.Ring as R
use Rattle.field.proofs.Solve.{ring, ◌⊕◌, ◌⊗◌, ⊖◌, nul, uni, v0, v1, v2, v3, v4}
use Rattle.algebra.specs.Sums.{sum, sub}
use Rattle.algebra.specs.Polynomials.{coeff, value}
use Rattle.algebra.specs.Relation.{join}
use Rattle.algebra.proofs.Sums as S
use Rattle.algebra.proofs.Polynomials as P

-- the value at x of the first n coefficients c, the first one out
abbrev pub horner : {K : Type 0} → Ops K → ℕ → (ℕ → K) → K → K
horner f zero c x = f.nil
horner f (suc n) c x = f.add (c 0) (f.mul x (horner f n (λ i. c (suc i)) x))

-- the coefficients of X^n times c
abbrev pub shift : {K : Type 0} → Ops K → ℕ → (ℕ → K) → ℕ → K
shift f zero c i = c i
shift f (suc n) c zero = f.nil
shift f (suc n) c (suc i) = shift f n c i

module _ {K : Type 0} (f : Ops K) (laws : Laws f) where
  open f use {nil, one, add as ◌⊞◌, mul as ◌⊠◌, neg, inv}
  open laws use {add_nil, mul_one, mul_assoc, mul_inv}

  infixl 60 ◌⊞◌
  infixl 70 ◌⊠◌
  pub horner_ext : (n : ℕ) (c d : ℕ → K) (x : K) → ((i : ℕ) → i < n → c i ≡ d i) → horner f n c x ≡ horner f n d x
  horner_ext zero c d x h = refl
  horner_ext (suc n) c d x h = ap₂ (λ a b. a ⊞ x ⊠ b) (h 0 (omega arith)) (horner_ext n (λ i. c (suc i)) (λ i. d (suc i)) x (λ i l. h (suc i) (omega arith)))

  pub horner_nil : (n : ℕ) (c : ℕ → K) (x : K) → ((i : ℕ) → i < n → c i ≡ nil) → horner f n c x ≡ nil
  horner_nil zero c x h = refl
  horner_nil (suc n) c x h =
      ap₂ (λ a b. a ⊞ x ⊠ b) (h 0 (omega arith)) (horner_nil n (λ i. c (suc i)) x (λ i l. h (suc i) (omega arith)))
      ∙ ring f laws (x ∷ []) (nul ⊕ v0 ⊗ nul) nul refl

  pub horner_add : (n : ℕ) (c d : ℕ → K) (x : K) → horner f n (λ i. c i ⊞ d i) x ≡ horner f n c x ⊞ horner f n d x
  horner_add zero c d x = sym (add_nil nil)
  horner_add (suc n) c d x =
      ap (λ y. c 0 ⊞ d 0 ⊞ x ⊠ y) (horner_add n (λ i. c (suc i)) (λ i. d (suc i)) x)
      ∙ ring f laws (c 0 ∷ d 0 ∷ x ∷ horner f n (λ i. c (suc i)) x ∷ horner f n (λ i. d (suc i)) x ∷ []) (v0 ⊕ v1 ⊕ v2 ⊗ (v3 ⊕ v4)) (v0 ⊕ v2 ⊗ v3 ⊕ (v1 ⊕ v2 ⊗ v4)) refl

  pub horner_neg : (n : ℕ) (c : ℕ → K) (x : K) → horner f n (λ i. neg (c i)) x ≡ neg (horner f n c x)
  horner_neg zero c x = sym (R.neg_nil f laws)
  horner_neg (suc n) c x =
      ap (λ y. neg (c 0) ⊞ x ⊠ y) (horner_neg n (λ i. c (suc i)) x)
      ∙ ring f laws (c 0 ∷ x ∷ horner f n (λ i. c (suc i)) x ∷ []) (⊖ v0 ⊕ v1 ⊗ (⊖ v2)) (⊖ (v0 ⊕ v1 ⊗ v2)) refl

  pub horner_sub : (n : ℕ) (c d : ℕ → K) (x : K) → horner f n (λ i. sub f (c i) (d i)) x ≡ sub f (horner f n c x) (horner f n d x)
  horner_sub n c d x = horner_add n c (λ i. neg (d i)) x ∙ ap (λ y. horner f n c x ⊞ y) (horner_neg n d x)

  pub horner_scale : (n : ℕ) (a : K) (c : ℕ → K) (x : K) → horner f n (λ i. a ⊠ c i) x ≡ a ⊠ horner f n c x
  horner_scale zero a c x = sym (R.mul_nil f laws a)
  horner_scale (suc n) a c x =
      ap (λ y. a ⊠ c 0 ⊞ x ⊠ y) (horner_scale n a (λ i. c (suc i)) x)
      ∙ ring f laws (c 0 ∷ x ∷ horner f n (λ i. c (suc i)) x ∷ a ∷ []) (v3 ⊗ v0 ⊕ v1 ⊗ (v3 ⊗ v2)) (v3 ⊗ (v0 ⊕ v1 ⊗ v2)) refl

  pub horner_sum : (n b : ℕ) (c : ℕ → ℕ → K) (x : K) → horner f n (λ k. sum f b (λ j. c j k)) x ≡ sum f b (λ j. horner f n (c j) x)
  horner_sum n zero c x = horner_nil n (λ k. nil) x (λ i l. refl)
  horner_sum n (suc b) c x = horner_add n (c 0) (λ k. sum f b (λ j. c (suc j) k)) x ∙ ap (λ y. horner f n (c 0) x ⊞ y) (horner_sum n b (λ j. c (suc j)) x)

  -- p(gX)
  pub horner_dilate : (n : ℕ) (g : K) (c : ℕ → K) (x : K) → horner f n (λ i. power f g i ⊠ c i) x ≡ horner f n c (g ⊠ x)
  horner_dilate zero g c x = refl
  horner_dilate (suc n) g c x =
      ap (λ y. one ⊠ c 0 ⊞ x ⊠ y)
      (horner_ext n (λ i. g ⊠ power f g i ⊠ c (suc i)) (λ i. g ⊠ (power f g i ⊠ c (suc i))) x (λ i l. mul_assoc g (power f g i) (c (suc i)))
      ∙ horner_scale n g (λ i. power f g i ⊠ c (suc i)) x ∙ ap (λ y. g ⊠ y) (horner_dilate n g (λ i. c (suc i)) x))
      ∙ ring f laws (c 0 ∷ x ∷ g ∷ horner f n (λ i. c (suc i)) (g ⊠ x) ∷ []) (uni ⊗ v0 ⊕ v1 ⊗ (v2 ⊗ v3)) (v0 ⊕ v2 ⊗ v1 ⊗ v3) refl

  -- the value as a sum of coefficients times powers
  pub horner_powers : (n : ℕ) (c : ℕ → K) (x : K) → horner f n c x ≡ sum f n (λ i. c i ⊠ power f x i)
  horner_powers zero c x = refl
  horner_powers (suc n) c x =
      ap₂ ◌⊞◌ (sym (mul_one (c 0)))
      (ap (λ y. x ⊠ y) (horner_powers n (λ i. c (suc i)) x) ∙ sym (S.sum_scale f laws n x (λ i. c (suc i) ⊠ power f x i))
      ∙ S.sum_ext f laws n (λ i. x ⊠ (c (suc i) ⊠ power f x i)) (λ i. c (suc i) ⊠ (x ⊠ power f x i)) (λ i l. R.mul_left_comm f laws x (c (suc i)) (power f x i)))

  pub horner_more : (n t : ℕ) (c : ℕ → K) (x : K) → n ≤ t → ((i : ℕ) → n ≤ i → c i ≡ nil) → horner f t c x ≡ horner f n c x
  horner_more zero t c x l h = horner_nil t c x (λ i k. h i (omega arith))
  horner_more (suc n) zero c x l h = absurd (omega arith)
  horner_more (suc n) (suc t) c x l h = ap (λ y. c 0 ⊞ x ⊠ y) (horner_more n t (λ i. c (suc i)) x (omega arith) (λ i k. h (suc i) (omega arith)))

  pub horner_shift : (n a t : ℕ) (c : ℕ → K) (x : K) → n + a ≤ t → ((i : ℕ) → a ≤ i → c i ≡ nil)
      → horner f t (shift f n c) x ≡ power f x n ⊠ horner f a c x
  horner_shift zero a t c x l h = horner_more a t c x (omega arith) h ∙ sym (R.one_mul f laws (horner f a c x))
  horner_shift (suc n) a zero c x l h = absurd (omega arith)
  horner_shift (suc n) a (suc t) c x l h =
      ap (λ y. nil ⊞ x ⊠ y) (horner_shift n a t c x (omega arith) h)
      ∙ ring f laws (x ∷ power f x n ∷ horner f a c x ∷ []) (nul ⊕ v0 ⊗ (v1 ⊗ v2)) (v0 ⊗ v1 ⊗ v2) refl

  pub shift_at : (n i k : ℕ) (c : ℕ → K) → k ≡ n + i → shift f n c k ≡ c i
  shift_at zero i k c e = let g : k ≡ i = omega arith in ap c g
  shift_at (suc n) i zero c e = absurd (omega arith)
  shift_at (suc n) i (suc k) c e = shift_at n i k c (omega arith)

  pub shift_low : (n k : ℕ) (c : ℕ → K) → k < n → shift f n c k ≡ nil
  shift_low zero k c l = absurd (omega arith)
  shift_low (suc n) zero c l = refl
  shift_low (suc n) (suc k) c l = shift_low n k c (omega arith)

  pub horner_join : (n m t : ℕ) (a b : ℕ → K) (x : K) → t ≡ n + m → horner f t (join n a b) x ≡ horner f n a x ⊞ power f x n ⊠ horner f m b x
  horner_join zero m t a b x e = let g : t ≡ m = omega arith in ap (λ s. horner f s b x) g ∙ ring f laws (horner f m b x ∷ []) v0 (nul ⊕ uni ⊗ v0) refl
  horner_join (suc n) m zero a b x e = absurd (omega arith)
  horner_join (suc n) m (suc t) a b x e =
      ap (λ y. a 0 ⊞ x ⊠ y) (horner_join n m t (λ i. a (suc i)) b x (omega arith))
      ∙ ring f laws (a 0 ∷ x ∷ horner f n (λ i. a (suc i)) x ∷ power f x n ∷ horner f m b x ∷ []) (v0 ⊕ v1 ⊗ (v2 ⊕ v3 ⊗ v4)) (v0 ⊕ v1 ⊗ v2 ⊕ v1 ⊗ v3 ⊗ v4) refl

  -- lists
  pub coeff_beyond : (p : List K) (n i : ℕ) → length p ≤ n → n ≤ i → coeff f p i ≡ nil
  coeff_beyond p n i l k = P.coeff_past f laws p i (omega arith)

  pub value_horner : (p : List K) (t : ℕ) (x : K) → length p ≤ t → value f p x ≡ horner f t (coeff f p) x
  value_horner p t x l =
      sym (horner_powers (length p) (coeff f p) x) ∙ sym (horner_more (length p) t (coeff f p) x l (λ i k. P.coeff_past f laws p i k))

  -- powers
  pub power_add : (x : K) (a b c : ℕ) → c ≡ a + b → power f x c ≡ power f x a ⊠ power f x b
  power_add x zero b c e = let g : c ≡ b = omega arith in ap (power f x) g ∙ sym (R.one_mul f laws (power f x b))
  power_add x (suc a) b zero e = absurd (omega arith)
  power_add x (suc a) b (suc c) e = ap (λ y. x ⊠ y) (power_add x a b c (omega arith)) ∙ sym (mul_assoc x (power f x a) (power f x b))

  pub power_mul : (x y : K) (a : ℕ) → power f (x ⊠ y) a ≡ power f x a ⊠ power f y a
  power_mul x y zero = sym (mul_one one)
  power_mul x y (suc a) = ap (λ z. x ⊠ y ⊠ z) (power_mul x y a) ∙ ring f laws (x ∷ y ∷ power f x a ∷ power f y a ∷ []) (v0 ⊗ v1 ⊗ (v2 ⊗ v3)) (v0 ⊗ v2 ⊗ (v1 ⊗ v3)) refl

  pub power_one : (a : ℕ) → power f one a ≡ one
  power_one zero = refl
  power_one (suc a) = R.one_mul f laws (power f one a) ∙ power_one a

  pub power_inv : (x : K) (a : ℕ) → (x ≡ nil → ⊥) → power f x a ⊠ power f (inv x) a ≡ one
  power_inv x a h = sym (power_mul x (inv x) a) ∙ ap (λ y. power f y a) (mul_inv x h) ∙ power_one a

  -- x^(d-j) = x^d · (1/x)^j
  pub power_down : (x : K) (d j : ℕ) → (x ≡ nil → ⊥) → j ≤ d → power f x (d - j) ≡ power f x d ⊠ power f (inv x) j
  power_down x d j h l =
      sym (ap (λ y. y ⊠ power f (inv x) j) (power_add x (d - j) j d (omega arith))
      ∙ mul_assoc (power f x (d - j)) (power f x j) (power f (inv x) j) ∙ ap (λ y. power f x (d - j) ⊠ y) (power_inv x j h) ∙ mul_one (power f x (d - j)))
