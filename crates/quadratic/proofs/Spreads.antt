-- Rows that are sums of values at columns, times a vector.
use Rattle.std.proofs.Common.{◌≡◌, ℕ, zero, suc, ◌<◌, refl, ap, ◌∙◌, ap₂, arith}
use Rattle.std.proofs.lemmas.Bool.{eq-eqb, ne_eqb}
use Rattle.field.specs.Field.{Ops, Laws}
use Rattle.field.proofs.Ring as R
use Rattle.algebra.specs.Sums.{sum}
use Rattle.algebra.specs.Polynomials.{monomial}
use Rattle.algebra.proofs.Sums as S

pub monomial_at : {K : Type 0} (f : Ops K) (v : K) (n : ℕ) → monomial f v n n ≡ v
monomial_at f v n = rw (eq-eqb n n refl)

pub monomial_off : {K : Type 0} (f : Ops K) (v : K) (n i : ℕ) → (i ≡ n → ⊥) → monomial f v n i ≡ f.nil
monomial_off f v n i h = rw (ne_eqb i n h)

module _ {K : Type 0} (f : Ops K) (laws : Laws f) (n : ℕ) where
  open f use {nil, one, add as ◌⊞◌, mul as ◌⊠◌}

  infixl 60 ◌⊞◌
  infixl 70 ◌⊠◌
  -- the product with a sum of two rows
  pub spread_add : (x y w : ℕ → K) → sum f n (λ j. (x j ⊞ y j) ⊠ w j) ≡ sum f n (λ j. x j ⊠ w j) ⊞ sum f n (λ j. y j ⊠ w j)
  spread_add x y w =
      S.sum_ext f laws n (λ j. (x j ⊞ y j) ⊠ w j) (λ j. x j ⊠ w j ⊞ y j ⊠ w j) (λ j l. R.add_mul f laws (x j) (y j) (w j))
      ∙ S.sum_add f laws n (λ j. x j ⊠ w j) (λ j. y j ⊠ w j)

  -- the product with a row that has v at column c
  pub spread_one : (v : K) (c : ℕ) (w : ℕ → K) → c < n → sum f n (λ j. monomial f v c j ⊠ w j) ≡ v ⊠ w c
  spread_one v c w h =
      S.sum_one f laws n c (λ j. monomial f v c j ⊠ w j) h (λ j l o. ap (λ x. x ⊠ w j) (monomial_off f v c j o) ∙ R.nil_mul f laws (w j))
      ∙ ap (λ x. x ⊠ w c) (monomial_at f v c)

  -- the product with a row that has each b i at column c i
  pub spread_many : (k : ℕ) (b : ℕ → K) (c : ℕ → ℕ) (w : ℕ → K) → ((i : ℕ) → i < k → c i < n)
      → sum f n (λ j. sum f k (λ i. monomial f (b i) (c i) j) ⊠ w j) ≡ sum f k (λ i. b i ⊠ w (c i))
  spread_many zero b c w h = S.sum_nil f laws n (λ j. nil ⊠ w j) (λ j l. R.nil_mul f laws (w j))
  spread_many (suc k) b c w h =
      spread_add (λ j. monomial f (b 0) (c 0) j) (λ j. sum f k (λ i. monomial f (b (suc i)) (c (suc i)) j)) w
      ∙ ap₂ ◌⊞◌ (spread_one (b 0) (c 0) w (h 0 (omega arith))) (spread_many k (λ i. b (suc i)) (λ i. c (suc i)) w (λ i l. h (suc i) (omega arith)))
