-- The value by a running power.
use Rattle.std.proofs.Common.{◌≡◌, ℕ, zero, suc, ◌+◌, ◌-◌, ◌<◌, ◌≤◌, true, List, [], ◌∷◌, length, get_or, drop, sym, refl, ap, ◌∙◌, inl, inr, arith}
use Rattle.std.proofs.lemmas.List.{at_drop_more}
use Rattle.field.specs.Field.{Ops, Laws, power}
use Rattle.field.proofs.Ring as R
use Rattle.field.proofs.Solve.{ring, ◌⊕◌, ◌⊗◌, nul, v0, v1, v2, v3}
use Rattle.algebra.specs.Polynomials.{value}
use Rattle.algebra.proofs.Polynomials.{value_cons}
use Rattle.algebra.proofs.Values.{power_add}
use Rattle.sparse_oracle.specs.Terms.{Spells, climbs, spread}
use Rattle.sparse_oracle.specs.declared.term.Term.{Term}
use Rattle.sparse_oracle.specs.Spelling.{step, view, after, spread_skip, spread_hit}

-- what the terms give, where y is the power of x that was reached
abbrev pub walked : {X K : Type 0} → Ops K → (X → K) → K → ℕ → K → List (Term X) → K
walked f mean x a y [] = f.nil
walked f mean x a y (t ∷ ts) =
    f.add (f.mul (mean t.coefficient) (f.mul y (power f x (t.exponent - a)))) (walked f mean x t.exponent (f.mul y (power f x (t.exponent - a))) ts)

-- one term more of those that are left
pub walked_step : {X K : Type 0} (f : Ops K) (mean : X → K) (x : K) (a : ℕ) (y : K) (ts : List (Term X)) (i : ℕ) (t : Term X) → i < length ts → t ≡ get_or ts i t → walked f mean x a y (drop i ts) ≡ walked f mean x a y (t ∷ drop (i + 1) ts)
walked_step f mean x a y ts i t h is = at_drop_more (walked f mean x a y) ts i t h ∙ ap (λ u. walked f mean x a y (u ∷ drop (i + 1) ts)) (sym is)

module _ {X K : Type 0} (f : Ops K) (laws : Laws f) (mean : X → K) (x : K) where
  open f use {nil, add as ◌⊞◌, mul as ◌⊠◌}

  infixl 60 ◌⊞◌
  infixl 70 ◌⊠◌
  skip : (a : ℕ) (v : K) → x ⊠ power f x a ⊠ v ≡ power f x a ⊠ (nil ⊞ x ⊠ v)
  skip a v = ring f laws (x ∷ power f x a ∷ v ∷ []) (v0 ⊗ v1 ⊗ v2) (v1 ⊗ (nul ⊕ v0 ⊗ v2)) refl

  hit : (k : K) (a : ℕ) (v : K) → k ⊠ power f x a ⊞ x ⊠ power f x a ⊠ v ≡ power f x a ⊠ (k ⊞ x ⊠ v)
  hit k a v = ring f laws (x ∷ power f x a ∷ v ∷ k ∷ []) (v3 ⊗ v1 ⊕ v0 ⊗ v1 ⊗ v2) (v1 ⊗ (v3 ⊕ v0 ⊗ v2)) refl

  -- the power y is any that was reached below a
  walk : (n a b c : ℕ) (y : K) (ts : List (Term X)) → a + n ≡ b → c ≤ a → y ≡ power f x c → climbs a ts b ≡ true → walked f mean x c y ts ≡ power f x a ⊠ value f (spread f mean n a ts) x
  walk zero a b c y [] e l p h = sym (R.mul_nil f laws (power f x a))
  walk zero a b c y (t ∷ ts) e l p h = let s = step t a ts b h in let u = s.from in let v = s.below in absurd (omega arith)
  walk (suc n) a b c y [] e l p h =
      walk n (suc a) b c y [] (omega arith) (omega arith) p refl
      ∙ skip a (value f (spread f mean n (suc a) []) x)
      ∙ ap (λ v. power f x a ⊠ v) (sym (value_cons f laws nil (spread f mean n (suc a) []) x))
  walk (suc n) a b c y (t ∷ ts) e l p h =
      elim (view t ts a b h) [
        | inl o ↦
            let z = y ⊠ power f x (t.exponent - c) in
            let q : z ≡ power f x a = ap (λ u. u ⊠ power f x (t.exponent - c)) p ∙ sym (power_add f laws x c (t.exponent - c) a (omega arith)) in
            ap (λ u. mean t.coefficient ⊠ z ⊞ u) (walk n (suc a) b t.exponent z ts (omega arith) (omega arith) (q ∙ ap (power f x) (sym o)) (after t ts a b o h))
            ∙ ap (λ u. mean t.coefficient ⊠ u ⊞ x ⊠ power f x a ⊠ value f (spread f mean n (suc a) ts) x) q
            ∙ hit (mean t.coefficient) a (value f (spread f mean n (suc a) ts) x)
            ∙ ap (λ v. power f x a ⊠ v) (sym (ap (λ r. value f r x) (spread_hit f mean n a t ts o) ∙ value_cons f laws (mean t.coefficient) (spread f mean n (suc a) ts) x))
        | inr o ↦
            walk n (suc a) b c y (t ∷ ts) (omega arith) (omega arith) p o
            ∙ skip a (value f (spread f mean n (suc a) (t ∷ ts)) x)
            ∙ ap (λ v. power f x a ⊠ v) (sym (ap (λ r. value f r x) (spread_skip f mean n a b (t ∷ ts) o) ∙ value_cons f laws nil (spread f mean n (suc a) (t ∷ ts)) x))
      ]

  pub value_walked : (ts : List (Term X)) (ks : List K) → Spells f mean ts ks → walked f mean x 0 f.one ts ≡ value f ks x
  value_walked ts ks s =
      walk (length ks) 0 (length ks) 0 f.one ts (omega arith) (omega arith) refl s.ascend
      ∙ R.one_mul f laws (value f (spread f mean (length ks) 0 ts) x)
      ∙ ap (λ p. value f p x) s.filled
