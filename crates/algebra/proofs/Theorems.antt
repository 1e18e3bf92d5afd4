-- Soundness, counts of lucky challenges, completeness and the root bound.
use Rattle.std.proofs.Common.{◌≡◌, ℕ, zero, suc, ◌+◌, ◌-◌, ◌*◌, ◌<◌, ◌≤◌, max, ◌⊎◌, List, [], ◌∷◌, length, sym, refl, ap, ◌∙◌, ap₂, inl, inr, arith}
use native.Mathlib.Decide.{dec_lt}
use Rattle.field.specs.Field.{Ops, Laws, power}
use Rattle.field.proofs.Ring as R
use Rattle.field.proofs.Solve.{ring, ◌⊕◌, ◌⊗◌, ⊖◌, nul, uni, v0, v1, v2, v3, v4}
use Rattle.algebra.specs.Sums.{sum, sub}
use Rattle.algebra.specs.Polynomials.{coeff, value, binomial, product}
use Rattle.algebra.specs.Relation.{Claim, width, join, wires, row_error, gate_error, ZeroBelow, Holds}
use Rattle.algebra.specs.Roots.{Each, Distinct}
use Rattle.algebra.specs.Proofs.{Reply, Shaped, ReplyShaped, wires_at, twist, Equations, left_scaled, Honest}
use Rattle.algebra.specs.Challenges.{series, Zero, Lucky, LuckyAlpha, LuckyBeta, D1, D2, D3, AllZero, LuckyZ}
use Rattle.algebra.specs.Theorems.{RootBound, Sound, FewAlpha, FewBeta, FewZ, Ends, Complete}
use Rattle.algebra.proofs.Sums as S
use Rattle.algebra.proofs.Polynomials as P
use Rattle.algebra.proofs.Values as V
use Rattle.algebra.proofs.Values.{horner}
use Rattle.algebra.proofs.Roots as Z
use Rattle.algebra.proofs.Gap as G

-- one block and those before it
first_block : (m w : ℕ) → 1 ≤ m → w + (m - 1) * w ≤ m * w
first_block zero w l = absurd (omega arith)
first_block (suc m) w l = let g : suc m - 1 ≡ m = omega arith in rw g (omega arith)

each_one : {K : Type 0} (P Q : K → Type 0) (xs : List K) → ((x : K) → P x → Q x) → Each P xs → Each Q xs
each_one P Q [] h p = tt
each_one P Q (x ∷ xs) h p = (h x p.0, each_one P Q xs h p.1)

module _ {K : Type 0} (f : Ops K) (laws : Laws f) where
  open f use {nil, one, add as ◌⊞◌, mul as ◌⊠◌, inv, gamma, span}
  open laws use {mul_one, mul_comm}

  infixl 60 ◌⊞◌
  infixl 70 ◌⊠◌
  -- a series that is zero, by Horner's rule and back
  to_horner : (n : ℕ) (c : ℕ → K) (x : K) → series f n c x ≡ nil → horner f n c x ≡ nil
  to_horner n c x e = V.horner_powers f laws n c x ∙ e

  to_series : (n : ℕ) (c : ℕ → K) (x : K) → horner f n c x ≡ nil → series f n c x ≡ nil
  to_series n c x e = sym (V.horner_powers f laws n c x) ∙ e

  module _ (s : Claim K) (shaped : Shaped s) where
    wires_value : (y : K) → horner f (width s) (wires f s) y ≡ wires_at f s y
    wires_value y =
        let n = s.n in
        let L = coeff f s.left in
        let A = coeff f s.right in
        let O = coeff f s.out in
        V.horner_join f laws 1 (3 * n) (width s) (λ i. one) (join n L (join n A O)) y (omega arith)
        ∙ ap (λ x. one ⊞ y ⊠ nil ⊞ y ⊠ one ⊠ x)
        (V.horner_join f laws n (2 * n) (3 * n) L (join n A O) y (omega arith)
        ∙ ap₂ (λ a b. a ⊞ power f y n ⊠ b) (sym (V.value_horner f laws s.left n y shaped.left_long))
        (V.horner_join f laws n n (2 * n) A O y (omega arith)
        ∙ ap₂ (λ a b. a ⊞ power f y n ⊠ b) (sym (V.value_horner f laws s.right n y shaped.right_long)) (sym (V.value_horner f laws s.out n y shaped.out_long))))
        ∙ ring f laws (y ∷ power f y n ∷ value f s.left y ∷ value f s.right y ∷ value f s.out y ∷ [])
        (uni ⊕ v0 ⊗ nul ⊕ v0 ⊗ uni ⊗ (v2 ⊕ v1 ⊗ (v3 ⊕ v1 ⊗ v4))) (uni ⊕ v0 ⊗ v2 ⊕ v1 ⊗ v0 ⊗ v3 ⊕ v1 ⊗ (v1 ⊗ v0) ⊗ v4) refl
        ∙ ap₂ (λ a b. one ⊞ y ⊠ value f s.left y ⊞ a ⊠ value f s.right y ⊞ b ⊠ value f s.out y)
        (sym (power_more n)) (sym (V.power_add f laws y n (n + 1) (2 * n + 1) (omega arith) ∙ ap (λ x. power f y n ⊠ x) (power_more n)))
      where
        power_more : (k : ℕ) → power f y (k + 1) ≡ power f y k ⊠ y
        power_more k = V.power_add f laws y k 1 (k + 1) refl ∙ ap (λ x. power f y k ⊠ x) (mul_one y)

    -- the gates, at β
    gates_value : (β : K) → horner f s.n (gate_error f s) β ≡ sub f (sum f s.n (λ j. left_scaled f s β j ⊠ coeff f s.right j)) (value f s.out β)
    gates_value β =
        let n = s.n in
        let L = coeff f s.left in
        let A = coeff f s.right in
        V.horner_sub f laws n (λ i. L i ⊠ A i) (coeff f s.out) β
        ∙ ap₂ (λ a b. sub f a b)
        (V.horner_powers f laws n (λ i. L i ⊠ A i) β
        ∙ S.sum_ext f laws n (λ i. L i ⊠ A i ⊠ power f β i) (λ i. power f β i ⊠ L i ⊠ A i)
        (λ i l. ring f laws (L i ∷ A i ∷ power f β i ∷ []) (v0 ⊗ v1 ⊗ v2) (v2 ⊗ v0 ⊗ v1) refl))
        (sym (V.value_horner f laws s.out n β shaped.out_long))

    -- the lengths of the middle products
    rows_long : width s ≡ suc (3 * s.n)
    rows_long = omega arith

    gates_long : s.n ≡ suc (s.n - 1)
    gates_long = let g : 1 ≤ s.n = shaped.gates in omega arith

    left_past : (β : K) (i : ℕ) → s.n ≤ i → left_scaled f s β i ≡ nil
    left_past β i l = ap (λ x. power f β i ⊠ x) (V.coeff_beyond f laws s.left s.n i shaped.left_long l) ∙ R.mul_nil f laws (power f β i)

    module _ (p : Reply K) (fits : ReplyShaped s p) (α β : K) where
      r_past : (k : ℕ) → width s ≤ k → coeff f p.r k ≡ nil
      r_past k l = V.coeff_beyond f laws p.r (width s) k fits.r_long l

      q_past : (k : ℕ) → (s.m - 1) * width s ≤ k → coeff f p.q k ≡ nil
      q_past k l = V.coeff_beyond f laws p.q ((s.m - 1) * width s) k fits.q_long l

      -- the rows, at α
      rows_value : Zero f (D1 f s p α)
          → horner f s.m (row_error f s) α ≡ sub f (value f s.vector α) (sum f (width s) (λ j. coeff f p.r j ⊠ wires f s j))
      rows_value z =
          let m = s.m in
          let w = width s in
          let M = coeff f s.matrix in
          let r = coeff f p.r in
          let W = wires f s in
          V.horner_sub f laws m (coeff f s.vector) (λ i. sum f w (λ j. M (i * w + j) ⊠ W j)) α
          ∙ ap₂ (λ a b. sub f a b) (sym (V.value_horner f laws s.vector m α (let e = shaped.vector_long in omega arith)))
          (V.horner_sum f laws m w (λ j i. M (i * w + j) ⊠ W j) α
          ∙ S.sum_ext f laws w (λ j. horner f m (λ i. M (i * w + j) ⊠ W j) α) (λ j. r j ⊠ W j)
          (λ j l. V.horner_ext f laws m (λ i. M (i * w + j) ⊠ W j) (λ i. W j ⊠ M (i * w + j)) α (λ i l. mul_comm (M (i * w + j)) (W j))
          ∙ V.horner_scale f laws m (W j) (λ i. M (i * w + j)) α
          ∙ ap (λ x. W j ⊠ x)
          (G.remainder f laws m w α M (coeff f p.q) r shaped.rows (omega arith) (λ k. R.sub_same f laws _ _ (z k)) q_past r_past j l)
          ∙ mul_comm (W j) (r j)))

      module _ (z : K) (some : z ≡ nil → ⊥) where
        D1_value : horner f (s.m * width s) (D1 f s p α) z
            ≡ sub f (value f s.matrix z) (value f p.q z ⊠ sub f (power f z (width s)) α ⊞ value f p.r z)
        D1_value =
            let w = width s in
            let t = s.m * w in
            let M = coeff f s.matrix in
            let q = coeff f p.q in
            let b : w + (s.m - 1) * w ≤ t = first_block s.m w shaped.rows in
            V.horner_sub f laws t M (λ k. product f q (binomial f w α) k ⊞ coeff f p.r k) z
            ∙ ap₂ (λ a b. sub f a b) (sym (V.value_horner f laws s.matrix t z (let e = shaped.matrix_long in omega arith)))
            (V.horner_add f laws t (product f q (binomial f w α)) (coeff f p.r) z
            ∙ ap₂ ◌⊞◌
            (G.product_value f laws q w ((s.m - 1) * w) t α z (omega arith) b q_past
            ∙ ap (λ x. x ⊠ sub f (power f z w) α) (sym (V.value_horner f laws p.q ((s.m - 1) * w) z fits.q_long)))
            (sym (V.value_horner f laws p.r t z (let e = fits.r_long in omega arith))))

        D2_value : horner f (6 * s.n + 1) (D2 f s p α) z
            ≡ sub f (twist f (3 * s.n) p.h1 z) (power f z (3 * s.n) ⊠ sub f (value f p.r z ⊠ wires_at f s (inv z)) (value f s.vector α))
        D2_value =
            let d = 3 * s.n in
            let t = 6 * s.n + 1 in
            let w = width s in
            G.gap_value f laws d w (coeff f p.h1) (coeff f p.r) (wires f s) (value f s.vector α) rows_long t z some (omega arith) r_past
            ∙ ap₂ (λ a b. sub f a b)
            (ap₂ (λ a b. sub f (power f gamma d ⊠ a) b) (sym (V.value_horner f laws p.h1 t z fits.h1_long)) (sym (V.value_horner f laws p.h1 t (gamma ⊠ z) fits.h1_long)))
            (ap₂ (λ a b. power f z d ⊠ sub f (a ⊠ b) (value f s.vector α)) (sym (V.value_horner f laws p.r w z fits.r_long)) (wires_value (inv z)))

        D3_value : horner f (2 * s.n - 1) (D3 f s p β) z
            ≡ sub f (twist f (s.n - 1) p.h2 z) (power f z (s.n - 1) ⊠ sub f (value f s.left (β ⊠ z) ⊠ value f s.right (inv z)) (value f s.out β))
        D3_value =
            let n = s.n in
            let d = n - 1 in
            let t = 2 * n - 1 in
            let L = coeff f s.left in
            let g : 1 ≤ n = shaped.gates in
            G.gap_value f laws d n (coeff f p.h2) (left_scaled f s β) (coeff f s.right) (value f s.out β) gates_long t z some (omega arith) (left_past β)
            ∙ ap₂ (λ a b. sub f a b)
            (ap₂ (λ a b. sub f (power f gamma d ⊠ a) b) (sym (V.value_horner f laws p.h2 t z fits.h2_long)) (sym (V.value_horner f laws p.h2 t (gamma ⊠ z) fits.h2_long)))
            (ap₂ (λ a b. power f z d ⊠ sub f (a ⊠ b) (value f s.out β))
            (V.horner_dilate f laws n β L z ∙ sym (V.value_horner f laws s.left n (β ⊠ z) shaped.left_long)) (sym (V.value_horner f laws s.right n (inv z) shaped.right_long)))

        -- the equations say that the three are zero at z, and no more
        equations : horner f (s.m * width s) (D1 f s p α) z ≡ nil → horner f (6 * s.n + 1) (D2 f s p α) z ≡ nil → horner f (2 * s.n - 1) (D3 f s p β) z ≡ nil
            → Equations f s p α β z
        equations e1 e2 e3 =
            record {
              E1 = R.sub_same f laws _ _ (sym D1_value ∙ e1);
              E2 = R.sub_same f laws _ _ (sym D2_value ∙ e2);
              E3 = R.sub_same f laws _ _ (sym D3_value ∙ e3);
            }

        lucky : (AllZero f s p α β → ⊥) → Equations f s p α β z → LuckyZ f s p α β z
        lucky off e =
            record {
              off = off;
              hit1 = to_series (s.m * width s) (D1 f s p α) z (D1_value ∙ R.sub_nil f laws _ _ e.E1);
              hit2 = to_series (6 * s.n + 1) (D2 f s p α) z (D2_value ∙ R.sub_nil f laws _ _ e.E2);
              hit3 = to_series (2 * s.n - 1) (D3 f s p β) z (D3_value ∙ R.sub_nil f laws _ _ e.E3);
            }

      -- where the three are zero, the rows and the gates are zero at α and β
      rows_nil : AllZero f s p α β → horner f s.m (row_error f s) α ≡ nil
      rows_nil z =
          rows_value z.zero1
          ∙ R.sub_nil f laws _ _ (G.gap_says f laws (3 * s.n) (width s) (coeff f p.h1) (coeff f p.r) (wires f s) (value f s.vector α) rows_long (z.zero2 (3 * s.n)))

      gates_nil : AllZero f s p α β → horner f s.n (gate_error f s) β ≡ nil
      gates_nil z =
          gates_value β
          ∙ R.sub_nil f laws _ _
          (sym (G.gap_says f laws (s.n - 1) s.n (coeff f p.h2) (left_scaled f s β) (coeff f s.right) (value f s.out β) gates_long (z.zero3 (s.n - 1))))

      -- past their lengths they are zero
      D1_past : (k : ℕ) → s.m * width s ≤ k → D1 f s p α k ≡ nil
      D1_past k l =
          let w = width s in
          let q = coeff f p.q in
          let b : w + (s.m - 1) * w ≤ s.m * w = first_block s.m w shaped.rows in
          ap₂ (λ x y. sub f x (y ⊞ coeff f p.r k))
          (V.coeff_beyond f laws s.matrix (s.m * w) k (let e = shaped.matrix_long in omega arith) l)
          (G.product_shift f laws q w α k (omega arith)
          ∙ ap₂ (λ x y. sub f x (α ⊠ y)) (V.shift_at f laws w (k - w) k q (omega (arith, b)) ∙ q_past (k - w) (omega (arith, b))) (q_past k (omega (arith, b))))
          ∙ ap (λ x. sub f nil (sub f nil (α ⊠ nil) ⊞ x)) (r_past k (omega (arith, b)))
          ∙ ring f laws (α ∷ []) (nul ⊕ ⊖ (nul ⊕ ⊖ (v0 ⊗ nul) ⊕ nul)) nul refl

      D2_past : (k : ℕ) → 6 * s.n + 1 ≤ k → D2 f s p α k ≡ nil
      D2_past k l =
          G.gap_past f laws (3 * s.n) (width s) (coeff f p.h1) (coeff f p.r) (wires f s) (value f s.vector α) rows_long k (omega arith)
          (V.coeff_beyond f laws p.h1 (6 * s.n + 1) k fits.h1_long l)

      D3_past : (k : ℕ) → 2 * s.n - 1 ≤ k → D3 f s p β k ≡ nil
      D3_past k l =
          let g : 1 ≤ s.n = shaped.gates in
          G.gap_past f laws (s.n - 1) s.n (coeff f p.h2) (left_scaled f s β) (coeff f s.right) (value f s.out β) gates_long k (omega arith)
          (V.coeff_beyond f laws p.h2 (2 * s.n - 1) k fits.h2_long l)

      -- what is zero as far as it is long is zero
      whole : (t : ℕ) (c : ℕ → K) → ((k : ℕ) → t ≤ k → c k ≡ nil) → ZeroBelow f t c → Zero f c
      whole t c past z k = elim (dec_lt k t) [ yes l ↦ z k l | no l ↦ past k (omega arith) ]

      all_zero : ZeroBelow f (s.m * width s) (D1 f s p α) → ZeroBelow f (6 * s.n + 1) (D2 f s p α) → ZeroBelow f (2 * s.n - 1) (D3 f s p β) → AllZero f s p α β
      all_zero a b c =
          record {
            zero1 = whole (s.m * width s) (D1 f s p α) D1_past a;
            zero2 = whole (6 * s.n + 1) (D2 f s p α) D2_past b;
            zero3 = whole (2 * s.n - 1) (D3 f s p β) D3_past c;
          }

      all_zero_or : (AllZero f s p α β) ⊎ (AllZero f s p α β → ⊥)
      all_zero_or = go (Z.nil_below_or f laws (s.m * width s) (D1 f s p α)) (Z.nil_below_or f laws (6 * s.n + 1) (D2 f s p α)) (Z.nil_below_or f laws (2 * s.n - 1) (D3 f s p β))
        where
          go : (ZeroBelow f (s.m * width s) (D1 f s p α)) ⊎ (ZeroBelow f (s.m * width s) (D1 f s p α) → ⊥)
              → (ZeroBelow f (6 * s.n + 1) (D2 f s p α)) ⊎ (ZeroBelow f (6 * s.n + 1) (D2 f s p α) → ⊥)
              → (ZeroBelow f (2 * s.n - 1) (D3 f s p β)) ⊎ (ZeroBelow f (2 * s.n - 1) (D3 f s p β) → ⊥)
              → (AllZero f s p α β) ⊎ (AllZero f s p α β → ⊥)
          go (inl a) (inl b) (inl c) = inl (all_zero a b c)
          go (inr a) b c = inr (λ z. a (λ k l. z.zero1 k))
          go (inl a) (inr b) c = inr (λ z. b (λ k l. z.zero2 k))
          go (inl a) (inl b) (inr c) = inr (λ z. c (λ k l. z.zero3 k))

      honest_zero : 6 * s.n ≤ span → Holds f s → Honest f s p α β → AllZero f s p α β
      honest_zero room holds honest =
          let g : 1 ≤ s.n = shaped.gates in
          let divided : Zero f (D1 f s p α) = λ k. R.sub_nil f laws _ _ (honest.divided k) in
          all_zero (λ k l. divided k)
          (λ k l. G.gap_nil f laws (3 * s.n) (width s) (coeff f p.h1) (coeff f p.r) (wires f s) (value f s.vector α) rows_long (omega arith) honest.h1_is
          (R.sub_same f laws _ _ (sym (rows_value divided) ∙ V.horner_nil f laws s.m (row_error f s) α holds.rows_hold)) k (omega arith))
          (λ k l. G.gap_nil f laws (s.n - 1) s.n (coeff f p.h2) (left_scaled f s β) (coeff f s.right) (value f s.out β) gates_long (omega arith) honest.h2_is
          (sym (R.sub_same f laws _ _ (sym (gates_value β) ∙ V.horner_nil f laws s.n (gate_error f s) β holds.gates_hold))) k (omega arith))

  pub sound : Sound f
  sound s p α β z shaped fits some eqs false-claim =
      go (all_zero_or s shaped p fits α β) (Z.all_or_one f laws s.m (row_error f s)) (Z.all_or_one f laws s.n (gate_error f s))
    where
      go : (AllZero f s p α β) ⊎ (AllZero f s p α β → ⊥)
          → (ZeroBelow f s.m (row_error f s)) ⊎ ((i : ℕ) × (i < s.m) × (row_error f s i ≡ nil → ⊥))
          → (ZeroBelow f s.n (gate_error f s)) ⊎ ((i : ℕ) × (i < s.n) × (gate_error f s i ≡ nil → ⊥))
          → (LuckyAlpha f s α) ⊎ ((LuckyBeta f s β) ⊎ (LuckyZ f s p α β z))
      go (inr a) b c = inr (inr (lucky s shaped p fits α β z some a eqs))
      go (inl a) (inr b) c = inl (record { off = b; hit = to_series s.m (row_error f s) α (rows_nil s shaped p fits α β a) })
      go (inl a) (inl b) (inr c) = inr (inl (record { off = c; hit = to_series s.n (gate_error f s) β (gates_nil s shaped p fits α β a) }))
      go (inl a) (inl b) (inl c) = absurd (false-claim (record { rows_hold = b; gates_hold = c }))

  pub complete : Complete f
  complete s p α β z shaped fits room holds honest some =
      let a = honest_zero s shaped p fits α β room holds honest in
      equations s shaped p fits α β z some (V.horner_nil f laws (s.m * width s) (D1 f s p α) z (λ k l. a.zero1 k))
      (V.horner_nil f laws (6 * s.n + 1) (D2 f s p α) z (λ k l. a.zero2 k)) (V.horner_nil f laws (2 * s.n - 1) (D3 f s p β) z (λ k l. a.zero3 k))

  -- a claim holds or does not
  pub holds_or : (s : Claim K) → (Holds f s) ⊎ (Holds f s → ⊥)
  holds_or s = go (Z.nil_below_or f laws s.m (row_error f s)) (Z.nil_below_or f laws s.n (gate_error f s))
    where
      go : (ZeroBelow f s.m (row_error f s)) ⊎ (ZeroBelow f s.m (row_error f s) → ⊥)
          → (ZeroBelow f s.n (gate_error f s)) ⊎ (ZeroBelow f s.n (gate_error f s) → ⊥) → (Holds f s) ⊎ (Holds f s → ⊥)
      go (inl a) (inl b) = inl (record { rows_hold = a; gates_hold = b })
      go (inr a) b = inr (λ h. a h.rows_hold)
      go (inl a) (inr b) = inr (λ h. b h.gates_hold)

  -- where the equations fail, the claim or the prover is at fault
  pub at_fault : (s : Claim K) (p : Reply K) (α β z : K) → Shaped s → ReplyShaped s p → 6 * s.n ≤ span → (z ≡ nil → ⊥)
      → (Equations f s p α β z → ⊥) → (Holds f s → ⊥) ⊎ (Honest f s p α β → ⊥)
  at_fault s p α β z shaped fits room some fail =
      elim (holds_or s) [ inl a ↦ inr (λ h. fail (complete s p α β z shaped fits room a h some)) | inr a ↦ inl a ]

  -- how many challenges are lucky
  few_lucky : (n : ℕ) (c : ℕ → K) (xs : List K) → Distinct xs → Each (Lucky f n c) xs → length xs ≤ n - 1
  few_lucky n c [] d e = omega arith
  few_lucky n c (x ∷ xs) d e =
      let l : length (x ∷ xs) < n = Z.few_roots f laws n c (x ∷ xs) (λ h. let o = e.0.off in o.2 (h o.0 o.1)) d
      (each_one (Lucky f n c) (λ a. horner f n c a ≡ nil) (x ∷ xs) (λ a h. to_horner n c a h.hit) e) in
      omega arith

  pub few_alpha : FewAlpha f
  few_alpha s xs d e = few_lucky s.m (row_error f s) xs d e

  pub few_beta : FewBeta f
  few_beta s xs d e = few_lucky s.n (gate_error f s) xs d e

  pub few_z : FewZ f
  few_z s p α β [] shaped fits d e = omega arith
  few_z s p α β (x ∷ xs) shaped fits d e =
      go (Z.nil_below_or f laws (s.m * width s) (D1 f s p α)) (Z.nil_below_or f laws (6 * s.n + 1) (D2 f s p α)) (Z.nil_below_or f laws (2 * s.n - 1) (D3 f s p β))
    where
      g : 1 ≤ s.n
      g = shaped.gates

      few : (t : ℕ) (c : ℕ → K) → ((a : K) → LuckyZ f s p α β a → series f t c a ≡ nil) → (ZeroBelow f t c → ⊥) → length (x ∷ xs) < t
      few t c hit off = Z.few_roots f laws t c (x ∷ xs) off d (each_one (LuckyZ f s p α β) (λ a. horner f t c a ≡ nil) (x ∷ xs) (λ a h. to_horner t c a (hit a h)) e)

      go : (ZeroBelow f (s.m * width s) (D1 f s p α)) ⊎ (ZeroBelow f (s.m * width s) (D1 f s p α) → ⊥)
          → (ZeroBelow f (6 * s.n + 1) (D2 f s p α)) ⊎ (ZeroBelow f (6 * s.n + 1) (D2 f s p α) → ⊥)
          → (ZeroBelow f (2 * s.n - 1) (D3 f s p β)) ⊎ (ZeroBelow f (2 * s.n - 1) (D3 f s p β) → ⊥)
          → length (x ∷ xs) ≤ max (s.m * width s - 1) (6 * s.n)
      go (inl a) (inl b) (inl c) = absurd (e.0.off (all_zero s shaped p fits α β a b c))
      go (inr a) b c = let l = few (s.m * width s) (D1 f s p α) (λ y h. h.hit1) a in omega arith
      go (inl a) (inr b) c = let l = few (6 * s.n + 1) (D2 f s p α) (λ y h. h.hit2) b in omega arith
      go (inl a) (inl b) (inr c) = let l = few (2 * s.n - 1) (D3 f s p β) (λ y h. h.hit3) c in omega arith

  pub ends : Ends f
  ends s p α β k shaped fits = (D1_past s shaped p fits α β k, D2_past s shaped p fits α β k, D3_past s shaped p fits α β k)

  pub root_bound : RootBound f
  root_bound p L xs long some d e =
      let off : ZeroBelow f (length p) (coeff f p) → ⊥ = λ h. some.1 (elim (dec_lt some.0 (length p)) [ yes l ↦ h some.0 l | no l ↦ P.coeff_past f laws p some.0 (omega arith) ]) in
      let few : length xs < length p = Z.few_roots f laws (length p) (coeff f p) xs off d
      (each_one (λ x. value f p x ≡ nil) (λ x. horner f (length p) (coeff f p) x ≡ nil) xs (λ x h. to_horner (length p) (coeff f p) x h) e) in
      omega arith
