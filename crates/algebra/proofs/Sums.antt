-- The rules of sums.
use Rattle.std.proofs.Common.{◌≡◌, ℕ, zero, suc, ◌+◌, ◌<◌, sym, refl, ap, ◌∙◌, ap₂, add-one, arith}
use Rattle.field.specs.Field.{Ops, Laws}
use Rattle.field.proofs.Ring as R
use Rattle.algebra.specs.Sums.{sum}

module _ {K : Type 0} (f : Ops K) (laws : Laws f) where
  open f use {nil, add as ◌⊞◌, mul as ◌⊠◌}
  open laws use {add_nil, add_comm, add_assoc, mul_add}

  infixl 60 ◌⊞◌
  infixl 70 ◌⊠◌
  pub sum_ext : (n : ℕ) (c d : ℕ → K) → ((i : ℕ) → i < n → c i ≡ d i) → sum f n c ≡ sum f n d
  sum_ext zero c d h = refl
  sum_ext (suc n) c d h = ap₂ ◌⊞◌ (h 0 (omega arith)) (sum_ext n (λ i. c (suc i)) (λ i. d (suc i)) (λ i l. h (suc i) (omega arith)))

  pub sum_nil : (n : ℕ) (c : ℕ → K) → ((i : ℕ) → i < n → c i ≡ nil) → sum f n c ≡ nil
  sum_nil zero c h = refl
  sum_nil (suc n) c h = ap₂ ◌⊞◌ (h 0 (omega arith)) (sum_nil n (λ i. c (suc i)) (λ i l. h (suc i) (omega arith))) ∙ add_nil nil

  pub sum_scale : (n : ℕ) (a : K) (c : ℕ → K) → sum f n (λ i. a ⊠ c i) ≡ a ⊠ sum f n c
  sum_scale zero a c = sym (R.mul_nil f laws a)
  sum_scale (suc n) a c = ap (λ x. a ⊠ c 0 ⊞ x) (sum_scale n a (λ i. c (suc i))) ∙ sym (mul_add a (c 0) (sum f n (λ i. c (suc i))))

  -- the last term out
  pub sum_last : (n : ℕ) (c : ℕ → K) → sum f (suc n) c ≡ sum f n c ⊞ c n
  sum_last zero c = add_comm (c 0) nil
  sum_last (suc n) c = ap (λ x. c 0 ⊞ x) (sum_last n (λ i. c (suc i))) ∙ sym (add_assoc (c 0) (sum f n (λ i. c (suc i))) (c (suc n)))

  -- one term more, as a loop adds it
  pub sum_more : (n : ℕ) (c : ℕ → K) (s y : K) → s ≡ sum f n c → y ≡ c n → s ⊞ y ≡ sum f (n + 1) c
  sum_more n c s y es ey = ap₂ ◌⊞◌ es ey ∙ sym (sum_last n c) ∙ ap (λ k. sum f k c) (sym (add-one n))

  -- a term more that is zero
  pub sum_pass : (n : ℕ) (c : ℕ → K) (s : K) → s ≡ sum f n c → c n ≡ nil → s ≡ sum f (n + 1) c
  sum_pass n c s es e = sym (add_nil s) ∙ sum_more n c s nil es (sym e)

  -- a sum with one term that is not zero
  pub sum_one : (n i : ℕ) (c : ℕ → K) → i < n → ((j : ℕ) → j < n → (j ≡ i → ⊥) → c j ≡ nil) → sum f n c ≡ c i
  sum_one zero i c l h = absurd (omega arith)
  sum_one (suc n) zero c l h = ap (λ x. c 0 ⊞ x) (sum_nil n (λ j. c (suc j)) (λ j l. h (suc j) (omega arith) (λ e. omega arith))) ∙ add_nil (c 0)
  sum_one (suc n) (suc i) c l h =
      ap₂ ◌⊞◌ (h 0 (omega arith) (λ e. omega arith)) (sum_one n i (λ j. c (suc j)) (omega arith) (λ j l o. h (suc j) (omega arith) (λ e. o (omega arith))))
      ∙ R.nil_add f laws (c (suc i))

  -- a sum of sums, term by term
  pub sum_add : (n : ℕ) (c d : ℕ → K) → sum f n (λ i. c i ⊞ d i) ≡ sum f n c ⊞ sum f n d
  sum_add zero c d = sym (add_nil nil)
  sum_add (suc n) c d =
      ap (λ x. c 0 ⊞ d 0 ⊞ x) (sum_add n (λ i. c (suc i)) (λ i. d (suc i)))
      ∙ add_assoc (c 0) (d 0) (sum f n (λ i. c (suc i)) ⊞ sum f n (λ i. d (suc i)))
      ∙ ap (λ x. c 0 ⊞ x) (R.add_left_comm f laws (d 0) (sum f n (λ i. c (suc i))) (sum f n (λ i. d (suc i))))
      ∙ sym (add_assoc (c 0) (sum f n (λ i. c (suc i))) (d 0 ⊞ sum f n (λ i. d (suc i))))
