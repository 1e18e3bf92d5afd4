-- A polynomial with as many distinct roots as coefficients is zero.
use Rattle.std.proofs.Common.{◌≡◌, ℕ, zero, suc, ◌<◌, ◌≤◌, Bool, true, false, ◌⊎◌, List, [], ◌∷◌, length, sym, refl, ap, ◌∙◌, inl, inr, arith}
use native.Mathlib.Decide.{dec_le}
use Rattle.field.specs.Field.{Ops, Laws}
use Rattle.field.proofs.Ring as R
use Rattle.field.proofs.Solve.{ring, ◌⊕◌, ◌⊗◌, ⊖◌, nul, v0, v1, v2, v3, v4}
use Rattle.algebra.specs.Sums.{sub}
use Rattle.algebra.specs.Relation.{ZeroBelow}
use Rattle.algebra.specs.Roots.{Each, Distinct}
use Rattle.algebra.proofs.Values as V
use Rattle.algebra.proofs.Values.{horner}

pub each_both : {K : Type 0} (P Q Z : K → Type 0) (xs : List K) → ((x : K) → P x → Q x → Z x) → Each P xs → Each Q xs → Each Z xs
each_both P Q Z [] h p q = tt
each_both P Q Z (x ∷ xs) h p q = (h x p.0 q.0, each_both P Q Z xs h p.1 q.1)

-- the coefficients of (X·p(X) - a·p(a)) / (X - a), of n coefficients p
abbrev over : {K : Type 0} → Ops K → ℕ → (ℕ → K) → K → ℕ → K
over f zero p a i = f.nil
over f (suc n) p a zero = horner f (suc n) p a
over f (suc n) p a (suc i) = over f n (λ k. p (suc k)) a i

module _ {K : Type 0} (f : Ops K) (laws : Laws f) where
  open f use {nil, add as ◌⊞◌, mul as ◌⊠◌, inv, same}
  open laws use {mul_inv, same_yes, same_no}

  infixl 60 ◌⊞◌
  infixl 70 ◌⊠◌
  pub nil_or : (a : K) → (a ≡ nil) ⊎ (a ≡ nil → ⊥)
  nil_or a = go (same a nil) refl
    where
      go : (b : Bool) → same a nil ≡ b → (a ≡ nil) ⊎ (a ≡ nil → ⊥)
      go true e = inl (same_yes a nil e)
      go false e = inr (same_no a nil e)

  pub no_divisors : (a b : K) → (a ≡ nil → ⊥) → a ⊠ b ≡ nil → b ≡ nil
  no_divisors a b h e =
      sym (R.one_mul f laws b) ∙ ap (λ x. x ⊠ b) (sym (mul_inv a h)) ∙ ring f laws (a ∷ inv a ∷ b ∷ []) (v0 ⊗ v1 ⊗ v2) (v1 ⊗ (v0 ⊗ v2)) refl
      ∙ ap (λ x. inv a ⊠ x) e ∙ R.mul_nil f laws (inv a)

  -- all of the first n are nil, or one is not
  pub all_or_one : (n : ℕ) (c : ℕ → K) → (ZeroBelow f n c) ⊎ ((i : ℕ) × (i < n) × (c i ≡ nil → ⊥))
  all_or_one zero c = inl (λ i l. absurd (omega arith))
  all_or_one (suc n) c = go (nil_or (c 0)) (all_or_one n (λ i. c (suc i)))
    where
      go : (c 0 ≡ nil) ⊎ (c 0 ≡ nil → ⊥) → (ZeroBelow f n (λ i. c (suc i))) ⊎ ((i : ℕ) × (i < n) × (c (suc i) ≡ nil → ⊥))
          → (ZeroBelow f (suc n) c) ⊎ ((i : ℕ) × (i < suc n) × (c i ≡ nil → ⊥))
      go (inr h) r = inr (0, omega arith, h)
      go (inl h) (inr r) = inr (suc r.0, let l = r.1 in omega arith, r.2)
      go (inl h) (inl r) = inl (elim [ zero ↦ λ l. h | suc i ↦ λ l. r i (omega arith) ])

  pub nil_below_or : (n : ℕ) (c : ℕ → K) → (ZeroBelow f n c) ⊎ (ZeroBelow f n c → ⊥)
  nil_below_or n c = go (all_or_one n c)
    where
      go : (ZeroBelow f n c) ⊎ ((i : ℕ) × (i < n) × (c i ≡ nil → ⊥)) → (ZeroBelow f n c) ⊎ (ZeroBelow f n c → ⊥)
      go (inl h) = inl h
      go (inr r) = inr (λ h. r.2 (h r.0 r.1))

  over_horner : (n : ℕ) (p : ℕ → K) (a x : K) → sub f x a ⊠ horner f n (over f n p a) x ≡ sub f (x ⊠ horner f n p x) (a ⊠ horner f n p a)
  over_horner zero p a x = ring f laws (x ∷ a ∷ []) ((v0 ⊕ ⊖ v1) ⊗ nul) (v0 ⊗ nul ⊕ ⊖ (v1 ⊗ nul)) refl
  over_horner (suc n) p a x =
      let P = λ (k : ℕ). p (suc k) in
      ring f laws (x ∷ a ∷ horner f (suc n) p a ∷ horner f n (over f n P a) x ∷ []) ((v0 ⊕ ⊖ v1) ⊗ (v2 ⊕ v0 ⊗ v3)) ((v0 ⊕ ⊖ v1) ⊗ v2 ⊕ v0 ⊗ ((v0 ⊕ ⊖ v1) ⊗ v3)) refl
      ∙ ap (λ y. sub f x a ⊠ horner f (suc n) p a ⊞ x ⊠ y) (over_horner n P a x)
      ∙ ring f laws (x ∷ a ∷ p 0 ∷ horner f n P a ∷ horner f n P x ∷ []) ((v0 ⊕ ⊖ v1) ⊗ (v2 ⊕ v1 ⊗ v3) ⊕ v0 ⊗ (v0 ⊗ v4 ⊕ ⊖ (v1 ⊗ v3))) (v0 ⊗ (v2 ⊕ v0 ⊗ v4) ⊕ ⊖ (v1 ⊗ (v2 ⊕ v1 ⊗ v3))) refl

  -- a sum of which the second part is nil
  head_nil : (c a y : K) → y ≡ nil → c ⊞ a ⊠ y ≡ nil → c ≡ nil
  head_nil c a y e h = ring f laws (c ∷ a ∷ []) v0 (v0 ⊕ v1 ⊗ nul) refl ∙ ap (λ z. c ⊞ a ⊠ z) (sym e) ∙ h

  over_nil : (n : ℕ) (p : ℕ → K) (a : K) → ZeroBelow f n (over f n p a) → ZeroBelow f n p
  over_nil zero p a h = λ i l. absurd (omega arith)
  over_nil (suc n) p a h =
      let rest = over_nil n (λ k. p (suc k)) a (λ i l. h (suc i) (omega arith)) in
      elim [ zero ↦ λ l. head_nil (p 0) a (horner f n (λ k. p (suc k)) a) (V.horner_nil f laws n (λ k. p (suc k)) a rest) (h 0 l) | suc i ↦ λ l. rest i (omega arith) ]

  pub zero_by_roots : (n : ℕ) (p : ℕ → K) (xs : List K) → Distinct xs → Each (λ x. horner f n p x ≡ nil) xs → n ≤ length xs → ZeroBelow f n p
  zero_by_roots zero p xs d r l = λ i k. absurd (omega arith)
  zero_by_roots (suc n) p [] d r l = absurd (omega arith)
  zero_by_roots (suc n) p (a ∷ xs) d r l =
      let P = λ (k : ℕ). p (suc k) in
      let one-root : (x : K) → (x ≡ a → ⊥) → horner f (suc n) p x ≡ nil → horner f n (over f n P a) x ≡ nil =
      λ x off e. no_divisors (sub f x a) (horner f n (over f n P a) x) (λ z. off (R.sub_same f laws x a z))
      (over_horner n P a x
      ∙ ring f laws (x ∷ a ∷ p 0 ∷ horner f n P x ∷ horner f n P a ∷ []) (v0 ⊗ v3 ⊕ ⊖ (v1 ⊗ v4)) ((v2 ⊕ v0 ⊗ v3) ⊕ ⊖ (v2 ⊕ v1 ⊗ v4)) refl
      ∙ R.sub_nil f laws (horner f (suc n) p x) (horner f (suc n) p a) (e ∙ sym r.0)) in
      let rest = over_nil n P a (zero_by_roots n (over f n P a) xs d.1
      (each_both (λ x. x ≡ a → ⊥) (λ x. horner f (suc n) p x ≡ nil) (λ x. horner f n (over f n P a) x ≡ nil) xs one-root d.0 r.1) (omega arith)) in
      elim [ zero ↦ λ l. head_nil (p 0) a (horner f n P a) (V.horner_nil f laws n P a rest) r.0 | suc i ↦ λ l. rest i (omega arith) ]

  -- the root bound
  pub few_roots : (n : ℕ) (p : ℕ → K) (xs : List K) → (ZeroBelow f n p → ⊥) → Distinct xs → Each (λ x. horner f n p x ≡ nil) xs → length xs < n
  few_roots n p xs h d r = go (dec_le n (length xs))
    where
      go : Dec (n ≤ length xs) → length xs < n
      go (yes l) = absurd (h (zero_by_roots n p xs d r l))
      go (no l) = omega arith
