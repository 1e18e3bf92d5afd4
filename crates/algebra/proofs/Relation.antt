-- The entries of (1, wl, wr, wo), and errors that are zero.
use Rattle.std.proofs.Common.{◌≡◌, ℕ, zero, suc, ◌+◌, ◌*◌, ◌<◌, true, false, refl, ap, ◌∙◌, arith}
use Rattle.field.specs.Field.{Ops, Laws}
use Rattle.field.proofs.Ring as R
use Rattle.algebra.specs.Sums.{sub}
use Rattle.algebra.specs.Polynomials.{coeff}
use Rattle.algebra.specs.Relation.{Claim, join, wires}

pub join_low : {K : Type 0} (n i : ℕ) (a b : ℕ → K) → i < n → join n a b i ≡ a i
join_low zero i a b h = absurd (omega arith)
join_low (suc n) zero a b h = refl
join_low (suc n) (suc i) a b h = join_low n i (λ k. a (suc k)) b (omega arith)

pub join_high : {K : Type 0} (n i j : ℕ) (a b : ℕ → K) → j ≡ n + i → join n a b j ≡ b i
join_high zero i j a b e = let g : j ≡ i = omega arith in ap b g
join_high (suc n) i zero a b e = absurd (omega arith)
join_high (suc n) i (suc j) a b e = join_high n i j (λ k. a (suc k)) b (omega arith)

module _ {K : Type 0} (f : Ops K) (s : Claim K) where
  behind : ℕ → K
  behind = join s.n (coeff f s.right) (coeff f s.out)

  pub wires_left : (j i : ℕ) → j ≡ 1 + i → i < s.n → wires f s j ≡ coeff f s.left i
  unfolding behind
  wires_left j i e h = join_high 1 i j (λ _. f.one) (join s.n (coeff f s.left) behind) e ∙ join_low s.n i (coeff f s.left) behind h

  pub wires_right : (j i : ℕ) → j ≡ 1 + s.n + i → i < s.n → wires f s j ≡ coeff f s.right i
  unfolding behind
  wires_right j i e h =
      join_high 1 (s.n + i) j (λ _. f.one) (join s.n (coeff f s.left) behind) (omega arith)
      ∙ join_high s.n i (s.n + i) (coeff f s.left) behind refl ∙ join_low s.n i (coeff f s.right) (coeff f s.out) h

  pub wires_out : (j i : ℕ) → j ≡ 1 + 2 * s.n + i → wires f s j ≡ coeff f s.out i
  unfolding behind
  wires_out j i e =
      join_high 1 (s.n + (s.n + i)) j (λ _. f.one) (join s.n (coeff f s.left) behind) (omega arith)
      ∙ join_high s.n (s.n + i) (s.n + (s.n + i)) (coeff f s.left) behind refl
      ∙ join_high s.n i (s.n + i) (coeff f s.right) (coeff f s.out) refl

-- the test for sameness tells whether a difference is zero
module _ {K : Type 0} (f : Ops K) (laws : Laws f) where
  pub same_sub : (a b : K) → f.same a b ≡ true → sub f a b ≡ f.nil
  same_sub a b t = R.sub_nil f laws a b (laws.same_yes a b t)

  pub differ_sub : (a b : K) → f.same a b ≡ false → sub f a b ≡ f.nil → ⊥
  differ_sub a b t e = laws.same_no a b t (R.sub_same f laws a b e)
