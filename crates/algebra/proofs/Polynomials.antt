-- Values, products with X^n - v, and the middle product.
use Rattle.std.proofs.Common.{◌≡◌, ℕ, suc, ◌+◌, ◌-◌, ◌<◌, ◌≤◌, cond, eqb, List, [], ◌∷◌, length, sym, refl, ap, ◌∙◌, ap₂, arith, eq-eqb, ne_eqb}
use native.Mathlib.Decide.{dec_lt}
use Rattle.std.proofs.lemmas.List.{get_or_past}
use Rattle.field.specs.Field.{Ops, Laws, power}
use Rattle.field.proofs.Ring as R
use Rattle.field.proofs.Solve.{ring, ◌⊕◌, ◌⊗◌, ⊖◌, nul, v0, v1, v2}
use Rattle.algebra.specs.Sums.{sum, sub}
use Rattle.algebra.specs.Polynomials.{coeff, value, monomial, binomial, product, Divides}
use Rattle.algebra.proofs.Sums as S

module _ {K : Type 0} (f : Ops K) (laws : Laws f) where
  open f use {nil, one, add as ◌⊞◌, mul as ◌⊠◌, neg}
  open laws use {add_nil, add_comm, add_neg, mul_one, mul_comm}

  infixl 60 ◌⊞◌
  infixl 70 ◌⊠◌
  -- one coefficient more at the front
  pub value_cons : (c : K) (p : List K) (x : K) → value f (c ∷ p) x ≡ c ⊞ x ⊠ value f p x
  value_cons c p x =
      ap₂ ◌⊞◌ (mul_one c)
      (S.sum_ext f laws (length p) (λ i. coeff f p i ⊠ (x ⊠ power f x i)) (λ i. x ⊠ (coeff f p i ⊠ power f x i))
      (λ i l. R.mul_left_comm f laws (coeff f p i) x (power f x i))
      ∙ S.sum_scale f laws (length p) x (λ i. coeff f p i ⊠ power f x i))

  pub coeff_past : (p : List K) (i : ℕ) → length p ≤ i → coeff f p i ≡ nil
  coeff_past p i l = get_or_past p i nil l

  pub monomial_at : (v : K) (n : ℕ) → monomial f v n n ≡ v
  monomial_at v n = rw (eq-eqb n n refl)

  pub monomial_off : (v : K) (n i : ℕ) → (i ≡ n → ⊥) → monomial f v n i ≡ nil
  monomial_off v n i h = rw (ne_eqb i n h)

  -- X^n - v, for n above 0, at 0, at n and elsewhere
  binomial_low : (n : ℕ) (v : K) → 0 < n → binomial f n v 0 ≡ neg v
  binomial_low n v h = ap₂ (sub f) (monomial_off one n 0 (λ e. omega arith)) (monomial_at v 0) ∙ R.nil_add f laws (neg v)

  binomial_high : (n : ℕ) (v : K) → 0 < n → binomial f n v n ≡ one
  binomial_high n v h =
      ap₂ (sub f) (monomial_at one n) (monomial_off v 0 n (λ e. omega arith)) ∙ ap (λ x. one ⊞ x) (R.neg_nil f laws) ∙ add_nil one

  binomial_off : (n : ℕ) (v : K) (i : ℕ) → (i ≡ n → ⊥) → (i ≡ 0 → ⊥) → binomial f n v i ≡ nil
  binomial_off n v i h k = ap₂ (sub f) (monomial_off one n i h) (monomial_off v 0 i k) ∙ add_neg nil

  -- the product with X^n - v has at k the coefficient k - n, where there is one, less v times coefficient k
  module _ (q : ℕ → K) (n : ℕ) (v : K) (some : 0 < n) (k : ℕ) where
    last : q k ⊠ binomial f n v (k - k) ≡ neg (v ⊠ q k)
    last =
        let e : k - k ≡ 0 = omega arith in
        ap (λ i. q k ⊠ binomial f n v i) e ∙ ap (λ x. q k ⊠ x) (binomial_low n v some) ∙ R.mul_neg f laws (q k) v ∙ ap neg (mul_comm (q k) v)

    pub product_low : k < n → product f q (binomial f n v) k ≡ neg (v ⊠ q k)
    product_low h =
        S.sum_last f laws k (λ i. q i ⊠ binomial f n v (k - i))
        ∙ ap₂ ◌⊞◌
        (S.sum_nil f laws k (λ i. q i ⊠ binomial f n v (k - i)) (λ i l. ap (λ x. q i ⊠ x) (binomial_off n v (k - i) (λ e. omega arith) (λ e. omega arith)) ∙ R.mul_nil f laws (q i)))
        last
        ∙ R.nil_add f laws (neg (v ⊠ q k))

    pub product_high : n ≤ k → product f q (binomial f n v) k ≡ q (k - n) ⊞ neg (v ⊠ q k)
    product_high h =
        let e : k - (k - n) ≡ n = omega arith in
        S.sum_last f laws k (λ i. q i ⊠ binomial f n v (k - i))
        ∙ ap₂ ◌⊞◌
        (S.sum_one f laws k (k - n) (λ i. q i ⊠ binomial f n v (k - i)) (omega arith)
        (λ i l o. ap (λ x. q i ⊠ x) (binomial_off n v (k - i) (λ e. o (omega arith)) (λ e. omega arith)) ∙ R.mul_nil f laws (q i))
        ∙ ap (λ i. q (k - n) ⊠ binomial f n v i) e ∙ ap (λ x. q (k - n) ⊠ x) (binomial_high n v some) ∙ mul_one (q (k - n)))
        last

  -- quotient and remainder by the rule of synthetic division
  pub divides : (p q r : List K) (n : ℕ) (v : K) → 0 < n → length r ≡ n
      → ((k : ℕ) → coeff f q k ≡ coeff f p (k + n) ⊞ v ⊠ coeff f q (k + n))
      → ((k : ℕ) → k < n → coeff f r k ≡ coeff f p k ⊞ v ⊠ coeff f q k)
      → Divides f p n v q r
  divides p q r n v some long step rest k =
      elim (dec_lt k n) [
        | yes h ↦
            ring f laws (coeff f p k ∷ v ∷ coeff f q k ∷ []) v0 (⊖ (v1 ⊗ v2) ⊕ (v0 ⊕ v1 ⊗ v2)) refl
            ∙ ap₂ ◌⊞◌ (sym (product_low (coeff f q) n v some k h)) (sym (rest k h))
        | no h ↦
            let l : n ≤ k = omega arith in
            let e : k - n + n ≡ k = omega arith in
            ring f laws (coeff f p k ∷ v ∷ coeff f q k ∷ []) v0 ((v0 ⊕ v1 ⊗ v2) ⊕ ⊖ (v1 ⊗ v2) ⊕ nul) refl
            ∙ ap₂ ◌⊞◌
            (ap (λ x. x ⊞ neg (v ⊠ coeff f q k)) (sym (step (k - n) ∙ ap (λ i. coeff f p i ⊞ v ⊠ coeff f q i) e)) ∙ sym (product_high (coeff f q) n v some k l))
            (sym (coeff_past r k (omega arith)))
      ]

  -- the terms of the middle product at j: one, or none
  module _ (d : ℕ) (a b : ℕ → K) (k j : ℕ) where
    abbrev pub middle_term : K
    middle_term = sum f (suc d) (λ i. cond (eqb (d + i) (k + j)) (a i ⊠ b j) nil)

    pub middle_met : (i : ℕ) → d + i ≡ k + j → i ≤ d → middle_term ≡ a i ⊠ b j
    middle_met i e l =
        S.sum_one f laws (suc d) i (λ h. cond (eqb (d + h) (k + j)) (a h ⊠ b j) nil) (omega arith)
        (λ h hl o. ap (λ t. cond t (a h ⊠ b j) nil) (ne_eqb (d + h) (k + j) (λ g. o (omega arith))))
        ∙ ap (λ t. cond t (a i ⊠ b j) nil) (eq-eqb (d + i) (k + j) e)

    pub middle_none : ((i : ℕ) → i ≤ d → d + i ≡ k + j → ⊥) → middle_term ≡ nil
    middle_none none =
        S.sum_nil f laws (suc d) (λ i. cond (eqb (d + i) (k + j)) (a i ⊠ b j) nil)
        (λ i l. ap (λ t. cond t (a i ⊠ b j) nil) (ne_eqb (d + i) (k + j) (none i (omega arith))))
