-- The product with X^w - α, the middle product and the gap: their values and their coefficients.
use Rattle.std.proofs.Common.{◌≡◌, ℕ, zero, suc, ◌+◌, ◌-◌, ◌*◌, ◌<◌, ◌≤◌, [], ◌∷◌, sym, refl, ap, ◌∙◌, ap₂, arith}
use native.Mathlib.Decide.{dec_le, dec_lt, ℕ_discrete}
use Rattle.field.specs.Field.{Ops, Laws, power}
use Rattle.field.proofs.Ring as R
use Rattle.field.proofs.Solve.{ring, ◌⊕◌, ◌⊗◌, ⊖◌, nul, uni, v0, v1, v2, v3}
use Rattle.algebra.specs.Sums.{sum, sub}
use Rattle.algebra.specs.Polynomials.{monomial, binomial, product, middle}
use Rattle.algebra.specs.Proofs.{Solves}
use Rattle.algebra.specs.Challenges.{gap}
use Rattle.algebra.proofs.Sums as S
use Rattle.algebra.proofs.Polynomials as P
use Rattle.algebra.proofs.Values as V
use Rattle.algebra.proofs.Values.{horner, shift}
use Rattle.algebra.proofs.Roots as Z

module _ {K : Type 0} (f : Ops K) (laws : Laws f) where
  open f use {nil, one, add as ◌⊞◌, mul as ◌⊠◌, neg, inv, gamma, span}
  open laws use {add_nil, add_comm, mul_comm, mul_assoc, mul_inv, one_nil, gamma_nil, gamma_span}

  infixl 60 ◌⊞◌
  infixl 70 ◌⊠◌
  -- q·(X^w - v) is X^w·q - v·q
  pub product_shift : (q : ℕ → K) (w : ℕ) (v : K) (k : ℕ) → 0 < w → product f q (binomial f w v) k ≡ sub f (shift f w q k) (v ⊠ q k)
  product_shift q w v k some = go (dec_lt k w)
    where
      go : Dec (k < w) → product f q (binomial f w v) k ≡ sub f (shift f w q k) (v ⊠ q k)
      go (yes l) =
          P.product_low f laws q w v some k l ∙ sym (R.nil_add f laws (neg (v ⊠ q k))) ∙ ap (λ x. sub f x (v ⊠ q k)) (sym (V.shift_low f laws w k q l))
      go (no l) =
          P.product_high f laws q w v some k (omega arith) ∙ ap (λ x. sub f x (v ⊠ q k)) (sym (V.shift_at f laws w (k - w) k q (omega arith)))

  pub product_value : (q : ℕ → K) (w a t : ℕ) (v x : K) → 0 < w → w + a ≤ t → ((i : ℕ) → a ≤ i → q i ≡ nil)
      → horner f t (product f q (binomial f w v)) x ≡ horner f a q x ⊠ sub f (power f x w) v
  product_value q w a t v x some l past =
      V.horner_ext f laws t (product f q (binomial f w v)) (λ k. sub f (shift f w q k) (v ⊠ q k)) x (λ k h. product_shift q w v k some)
      ∙ V.horner_sub f laws t (shift f w q) (λ k. v ⊠ q k) x
      ∙ ap₂ (λ y z. sub f y z) (V.horner_shift f laws w a t q x l past)
      (V.horner_scale f laws t v q x ∙ ap (λ y. v ⊠ y) (V.horner_more f laws a t q x (omega arith) past))
      ∙ ring f laws (power f x w ∷ horner f a q x ∷ v ∷ []) (v0 ⊗ v1 ⊕ ⊖ (v2 ⊗ v1)) (v1 ⊗ (v0 ⊕ ⊖ v2)) refl

  -- a sum of which the terms fall together
  telescope : (m : ℕ) (α r : K) (a b : ℕ → K) → a 0 ≡ sub f r (α ⊠ b 0)
      → ((i : ℕ) → i < m → a (suc i) ≡ sub f (b i) (α ⊠ b (suc i))) → b m ≡ nil → horner f (suc m) a α ≡ r
  telescope zero α r a b e h z =
      ap (λ x. x ⊞ α ⊠ nil) e ∙ ap (λ y. sub f r (α ⊠ y) ⊞ α ⊠ nil) z ∙ ring f laws (r ∷ α ∷ []) (v0 ⊕ ⊖ (v1 ⊗ nul) ⊕ v1 ⊗ nul) v0 refl
  telescope (suc m) α r a b e h z =
      ap₂ (λ x y. x ⊞ α ⊠ y) e (telescope m α (b 0) (λ i. a (suc i)) (λ i. b (suc i)) (h 0 (omega arith)) (λ i l. h (suc i) (omega arith)) z)
      ∙ ring f laws (r ∷ α ∷ b 0 ∷ []) (v0 ⊕ ⊖ (v1 ⊗ v2) ⊕ v1 ⊗ v2) v0 refl

  -- the remainder by X^w - α, of blocks of w coefficients
  blocks : (m w : ℕ) (α : K) (M q r : ℕ → K) → 0 < w → ((k : ℕ) → M k ≡ product f q (binomial f w α) k ⊞ r k)
      → ((k : ℕ) → m * w ≤ k → q k ≡ nil) → ((k : ℕ) → w ≤ k → r k ≡ nil)
      → (j : ℕ) → j < w → horner f (suc m) (λ i. M (i * w + j)) α ≡ r j
  blocks m w α M q r some is past-q past-r j l =
      telescope m α (r j) (λ i. M (i * w + j)) (λ i. q (i * w + j))
      (let e : 0 * w + j ≡ j = omega arith in
      rw e (is j ∙ ap (λ x. x ⊞ r j) (P.product_low f laws q w α some j l) ∙ add_comm (neg (α ⊠ q j)) (r j)))
      (λ i i<m. let k = suc i * w + j in
      let e : k - w ≡ i * w + j = omega arith in
      is k
      ∙ ap₂ ◌⊞◌ (P.product_high f laws q w α some k (omega arith)) (past-r k (omega arith))
      ∙ add_nil (q (k - w) ⊞ neg (α ⊠ q k)) ∙ ap (λ x. sub f (q x) (α ⊠ q k)) e)
      (past-q (m * w + j) (omega arith))

  pub remainder : (m w : ℕ) (α : K) (M q r : ℕ → K) → 1 ≤ m → 0 < w → ((k : ℕ) → M k ≡ product f q (binomial f w α) k ⊞ r k)
      → ((k : ℕ) → (m - 1) * w ≤ k → q k ≡ nil) → ((k : ℕ) → w ≤ k → r k ≡ nil)
      → (j : ℕ) → j < w → horner f m (λ i. M (i * w + j)) α ≡ r j
  remainder zero w α M q r o some is past-q past-r = absurd (omega arith)
  remainder (suc m) w α M q r o some is past-q past-r =
      let g : suc m - 1 ≡ m = omega arith in
      blocks m w α M q r some is (λ k l. past-q k (rw g l)) past-r

  pub monomial_value : (d t : ℕ) (v x : K) → d < t → horner f t (monomial f v d) x ≡ power f x d ⊠ v
  monomial_value d t v x l =
      V.horner_powers f laws t (monomial f v d) x
      ∙ S.sum_one f laws t d (λ i. monomial f v d i ⊠ power f x i) l
      (λ j h o. ap (λ y. y ⊠ power f x j) (P.monomial_off f laws v d j o) ∙ R.nil_mul f laws (power f x j))
      ∙ ap (λ y. y ⊠ power f x d) (P.monomial_at f laws v d) ∙ mul_comm v (power f x d)

  -- the middle product of a and b, of n = d + 1 coefficients each
  module _ (d n : ℕ) (a b : ℕ → K) (long : n ≡ suc d) where
    abbrev shifted : ℕ → ℕ → K
    shifted k j = b j ⊠ shift f (d - j) a k

    -- as a sum of shifts
    middle_shifts : (k : ℕ) → ((i : ℕ) → n ≤ i → a i ≡ nil) → middle f d a b k ≡ sum f n (shifted k)
    middle_shifts k past =
        S.sum_ext f laws (suc d) (P.middle_term f laws d a b k) (shifted k) (λ j l. term j l (dec_lt k (d - j)) (dec_le (k - (d - j)) d))
        ∙ ap (λ t. sum f t (shifted k)) (sym long)
      where
        term : (j : ℕ) → j < suc d → Dec (k < d - j) → Dec (k - (d - j) ≤ d) → P.middle_term f laws d a b k j ≡ shifted k j
        term j l (yes h) _ =
            P.middle_none f laws d a b k j (λ i il e. omega arith) ∙ sym (ap (λ x. b j ⊠ x) (V.shift_low f laws (d - j) k a h) ∙ R.mul_nil f laws (b j))
        term j l (no h) (yes g) =
            let i = k - (d - j) in
            P.middle_met f laws d a b k j i (omega arith) g ∙ mul_comm (a i) (b j) ∙ ap (λ x. b j ⊠ x) (sym (V.shift_at f laws (d - j) i k a (omega arith)))
        term j l (no h) (no g) =
            let i = k - (d - j) in
            P.middle_none f laws d a b k j (λ i il e. omega arith)
            ∙ sym (ap (λ x. b j ⊠ x) (V.shift_at f laws (d - j) i k a (omega arith) ∙ past i (omega arith)) ∙ R.mul_nil f laws (b j))

    -- its value is x^d·a(x)·b(1/x)
    pub middle_value : (t : ℕ) (x : K) → (x ≡ nil → ⊥) → d + n ≤ t → ((i : ℕ) → n ≤ i → a i ≡ nil)
        → horner f t (middle f d a b) x ≡ power f x d ⊠ (horner f n a x ⊠ horner f n b (inv x))
    middle_value t x some l past =
        V.horner_ext f laws t (middle f d a b) (λ k. sum f n (shifted k)) x (λ k h. middle_shifts k past)
        ∙ V.horner_sum f laws t n (λ j k. shifted k j) x
        ∙ S.sum_ext f laws n (λ j. horner f t (λ k. shifted k j) x) (λ j. power f x d ⊠ horner f n a x ⊠ (b j ⊠ power f (inv x) j))
        (λ j j<n. V.horner_scale f laws t (b j) (shift f (d - j) a) x
        ∙ ap (λ y. b j ⊠ y) (V.horner_shift f laws (d - j) n t a x (omega arith) past ∙ ap (λ y. y ⊠ horner f n a x) (V.power_down f laws x d j some (omega arith)))
        ∙ ring f laws (b j ∷ power f x d ∷ power f (inv x) j ∷ horner f n a x ∷ []) (v0 ⊗ (v1 ⊗ v2 ⊗ v3)) (v1 ⊗ v3 ⊗ (v0 ⊗ v2)) refl)
        ∙ S.sum_scale f laws n (power f x d ⊠ horner f n a x) (λ j. b j ⊠ power f (inv x) j)
        ∙ ap (λ y. power f x d ⊠ horner f n a x ⊠ y) (sym (V.horner_powers f laws n b (inv x)))
        ∙ mul_assoc (power f x d) (horner f n a x) (horner f n b (inv x))

    -- its coefficient at d
    middle_at : middle f d a b d ≡ sum f n (λ j. a j ⊠ b j)
    middle_at =
        S.sum_ext f laws (suc d) (P.middle_term f laws d a b d) (λ j. a j ⊠ b j) (λ j l. P.middle_met f laws d a b d j j refl (omega arith))
        ∙ ap (λ t. sum f t (λ j. a j ⊠ b j)) (sym long)

    middle_past : (k : ℕ) → 2 * d < k → middle f d a b k ≡ nil
    middle_past k l = S.sum_nil f laws (suc d) (P.middle_term f laws d a b k) (λ j h. P.middle_none f laws d a b k j (λ i il e. omega arith))

  power_some : (x : K) (a : ℕ) → (x ≡ nil → ⊥) → power f x a ≡ nil → ⊥
  power_some x a h e = one_nil (sym (V.power_inv f laws x a h) ∙ ap (λ y. y ⊠ power f (inv x) a) e ∙ R.nil_mul f laws (power f (inv x) a))

  -- powers of gamma no further apart than the span differ
  rises : (a b : ℕ) → a < b → b - a ≤ span → power f gamma a ≡ power f gamma b → ⊥
  rises a b l s e =
      gamma_span (b - a) (omega arith) s
      (sym (R.sub_same f laws one (power f gamma (b - a))
      (Z.no_divisors f laws (power f gamma a) (sub f one (power f gamma (b - a))) (power_some gamma a gamma_nil)
      (ring f laws (power f gamma a ∷ power f gamma (b - a) ∷ []) (v0 ⊗ (uni ⊕ ⊖ v1)) (v0 ⊕ ⊖ (v0 ⊗ v1)) refl
      ∙ R.sub_nil f laws (power f gamma a) (power f gamma a ⊠ power f gamma (b - a)) (e ∙ V.power_add f laws gamma a (b - a) b (omega arith))))))

  pub differ : (d k : ℕ) → (k ≡ d → ⊥) → k ≤ d + span → d ≤ span → sub f (power f gamma d) (power f gamma k) ≡ nil → ⊥
  differ d k o l s e = go (dec_lt k d)
    where
      same_power : power f gamma d ≡ power f gamma k
      same_power = R.sub_same f laws (power f gamma d) (power f gamma k) e

      go : Dec (k < d) → ⊥
      go (yes h) = rises k d h (omega arith) (sym same_power)
      go (no h) = rises d k (omega arith) (omega arith) same_power

  -- the gap of h, with a and b of n = d + 1 coefficients each
  module _ (d n : ℕ) (h a b : ℕ → K) (v : K) (long : n ≡ suc d) where
    pub gap_value : (t : ℕ) (x : K) → (x ≡ nil → ⊥) → d + n ≤ t → ((i : ℕ) → n ≤ i → a i ≡ nil)
        → horner f t (gap f d h a b v) x
        ≡ sub f (sub f (power f gamma d ⊠ horner f t h x) (horner f t h (gamma ⊠ x))) (power f x d ⊠ sub f (horner f n a x ⊠ horner f n b (inv x)) v)
    gap_value t x some l past =
        V.horner_sub f laws t (λ k. sub f (power f gamma d ⊠ h k) (power f gamma k ⊠ h k)) (λ k. sub f (middle f d a b k) (monomial f v d k)) x
        ∙ ap₂ (λ p q. sub f p q)
        (V.horner_sub f laws t (λ k. power f gamma d ⊠ h k) (λ k. power f gamma k ⊠ h k) x
        ∙ ap₂ (λ p q. sub f p q) (V.horner_scale f laws t (power f gamma d) h x) (V.horner_dilate f laws t gamma h x))
        (V.horner_sub f laws t (middle f d a b) (monomial f v d) x
        ∙ ap₂ (λ p q. sub f p q) (middle_value d n a b long t x some l past) (monomial_value d t v x (omega arith))
        ∙ ring f laws (power f x d ∷ horner f n a x ⊠ horner f n b (inv x) ∷ v ∷ []) (v0 ⊗ v1 ⊕ ⊖ (v0 ⊗ v2)) (v0 ⊗ (v1 ⊕ ⊖ v2)) refl)

    -- at d it is v less the sum of the products
    gap_middle : gap f d h a b v d ≡ sub f v (sum f n (λ j. a j ⊠ b j))
    gap_middle =
        ap₂ (λ p q. sub f (sub f (power f gamma d ⊠ h d) (power f gamma d ⊠ h d)) (sub f p q)) (middle_at d n a b long) (P.monomial_at f laws v d)
        ∙ ring f laws (power f gamma d ⊠ h d ∷ sum f n (λ j. a j ⊠ b j) ∷ v ∷ []) (v0 ⊕ ⊖ v0 ⊕ ⊖ (v1 ⊕ ⊖ v2)) (v2 ⊕ ⊖ v1) refl

    pub gap_says : gap f d h a b v d ≡ nil → v ≡ sum f n (λ j. a j ⊠ b j)
    gap_says e = R.sub_same f laws v (sum f n (λ j. a j ⊠ b j)) (sym gap_middle ∙ e)

    -- past 2d it is zero
    pub gap_past : (k : ℕ) → 2 * d < k → h k ≡ nil → gap f d h a b v k ≡ nil
    gap_past k l e =
        ap₂ (λ p q. sub f (sub f (power f gamma d ⊠ p) (power f gamma k ⊠ p)) q) e
        (ap₂ (λ p q. sub f p q) (middle_past d n a b long k l) (P.monomial_off f laws v d k (λ e. omega arith)))
        ∙ ring f laws (power f gamma d ∷ power f gamma k ∷ []) (v0 ⊗ nul ⊕ ⊖ (v1 ⊗ nul) ⊕ ⊖ (nul ⊕ ⊖ nul)) nul refl

    -- up to 2d it is zero where h is what it should be
    pub gap_nil : 2 * d ≤ span → Solves f d h a b → v ≡ sum f n (λ j. a j ⊠ b j) → (k : ℕ) → k ≤ 2 * d → gap f d h a b v k ≡ nil
    gap_nil room is e k l = go (ℕ_discrete k d)
      where
        go : Dec (k ≡ d) → gap f d h a b v k ≡ nil
        go (yes g) = ap (gap f d h a b v) g ∙ gap_middle ∙ R.sub_nil f laws v (sum f n (λ j. a j ⊠ b j)) e
        go (no o) =
            let u = sub f (power f gamma d) (power f gamma k) in
            let c = middle f d a b k in
            ap₂ (λ p q. sub f (sub f (power f gamma d ⊠ p) (power f gamma k ⊠ p)) (sub f c q)) (is k l o) (P.monomial_off f laws v d k o)
            ∙ ring f laws (power f gamma d ∷ power f gamma k ∷ c ∷ inv u ∷ []) (v0 ⊗ (v2 ⊗ v3) ⊕ ⊖ (v1 ⊗ (v2 ⊗ v3)) ⊕ ⊖ (v2 ⊕ ⊖ nul)) (v2 ⊗ ((v0 ⊕ ⊖ v1) ⊗ v3) ⊕ ⊖ v2) refl
            ∙ ap (λ x. c ⊠ x ⊞ neg c) (mul_inv u (differ d k o (omega arith) (omega arith)))
            ∙ ring f laws (c ∷ []) (v0 ⊗ uni ⊕ ⊖ v0) nul refl
