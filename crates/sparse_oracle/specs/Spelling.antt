-- Terms against the lists that they spell.
use Rattle.std.specs.Prelude.{◌≡◌, ℕ, zero, suc, ◌+◌, ◌<◌, ◌≤◌, Bool, true, false, not, cond, ◌⊎◌, List, [], ◌∷◌, ◌++◌, map, length, take, ◌==◌, ◌≢◌, refl}
use Rattle.std.proofs.Common.{sym, ap, ap₂, ◌∙◌, inl, inr, add-zero, arith, eq-eqb, ne_eqb}
use Rattle.std.proofs.Math.Decide.{dec_lt}
use Rattle.std.proofs.lemmas.List.Sums.{count_by-le-length, sum_by-append, sum_by-cons, sum_by-take-le}
use Rattle.std.proofs.lemmas.Bool.Decides.{nat_tests}
use Rattle.field.specs.Field.{Ops, Laws}
use Rattle.sparse_oracle.specs.Terms.{nonzero, term_of, terms_of, coefficients_of, climbs, spread}
use Rattle.sparse_oracle.specs.declared.term.Term.{Term}

-- what ascending exponents say of the first term
pub record Step {X : Type 0} (t : Term X) (a : ℕ) (ts : List (Term X)) (b : ℕ) : Type 0 where
  pub from : a ≤ t.exponent
  pub below : t.exponent < b
  pub rest : climbs (suc t.exponent) ts b ≡ true

pub step : {X : Type 0} (t : Term X) (a : ℕ) (ts : List (Term X)) (b : ℕ) → climbs a (t ∷ ts) b ≡ true → Step t a ts b
step t a ts b h = record { from = grind (arith, nat_tests, h); below = grind (arith, nat_tests, h); rest = grind (arith, nat_tests, h) }

stepped : {X : Type 0} (t : Term X) (a : ℕ) (ts : List (Term X)) (b : ℕ) → Step t a ts b → climbs a (t ∷ ts) b ≡ true
stepped t a ts b s = let u = s.from in let v = s.below in let r = s.rest in grind (arith, nat_tests)

-- they ascend from a lower exponent, too
lower : {X : Type 0} (ts : List (Term X)) (a b : ℕ) → climbs (suc a) ts b ≡ true → climbs a ts b ≡ true
lower [] a b h = refl
lower (t ∷ ts) a b h = let s = step t (suc a) ts b h in stepped t a ts b (record { from = omega (arith, s.from); below = s.below; rest = s.rest })

-- the first term has the lowest exponent, or all ascend from the next one on
pub view : {X : Type 0} (t : Term X) (ts : List (Term X)) (a b : ℕ) → climbs a (t ∷ ts) b ≡ true → (t.exponent ≡ a) ⊎ (climbs (suc a) (t ∷ ts) b ≡ true)
view t ts a b h =
    let s = step t a ts b h in
    let u = s.from in
    elim (dec_lt a t.exponent) [ yes l ↦ inr (stepped t (suc a) ts b (record { from = l; below = s.below; rest = s.rest })) | no l ↦ inl (omega arith) ]

-- what comes behind a first term of the lowest exponent
pub after : {X : Type 0} (t : Term X) (ts : List (Term X)) (a b : ℕ) → t.exponent ≡ a → climbs a (t ∷ ts) b ≡ true → climbs (suc a) ts b ≡ true
after t ts a b o h = ap (λ e. climbs (suc e) ts b) (sym o) ∙ (step t a ts b h).rest

pub nonzero_le : {K : Type 0} (f : Ops K) (ks : List K) → nonzero f ks ≤ length ks
nonzero_le f ks = count_by-le-length (λ k. not (f.same k f.nil)) ks

pub nonzero_append : {K : Type 0} (f : Ops K) (ks ls : List K) → nonzero f (ks ++ ls) ≡ nonzero f ks + nonzero f ls
nonzero_append f ks ls = sum_by-append (λ k. cond (not (f.same k f.nil)) 1 0) ks ls

pub nonzero_cons : {K : Type 0} (f : Ops K) (k : K) (ks : List K) → nonzero f (k ∷ ks) ≡ cond (f.same k f.nil) 0 1 + nonzero f ks
nonzero_cons f k ks = sum_by-cons (λ k. cond (not (f.same k f.nil)) 1 0) k ks ∙ ap (λ n. n + nonzero f ks) (go (f.same k f.nil))
  where
    go : (b : Bool) → cond (not b) 1 0 ≡ cond {A = ℕ} b 0 1
    go true = refl
    go false = refl

pub nonzero_take : {K : Type 0} (f : Ops K) (ks : List K) (n : ℕ) → nonzero f (take n ks) ≤ nonzero f ks
nonzero_take f ks n = sum_by-take-le (λ k. cond (not (f.same k f.nil)) 1 0) ks n

module _ {X K : Type 0} (f : Ops K) (mean : X → K) where
  pub length_spread : (n a : ℕ) (ts : List (Term X)) → length (spread f mean n a ts) ≡ n
  length_spread zero a ts = refl
  length_spread (suc n) a [] = ap suc (length_spread n (suc a) [])
  length_spread (suc n) a (t ∷ ts) =
      elim (t.exponent == a) as (λ b. length (cond b (mean t.coefficient ∷ spread f mean n (suc a) ts) (f.nil ∷ spread f mean n (suc a) (t ∷ ts))) ≡ suc n)
      [ true ↦ ap suc (length_spread n (suc a) ts) | false ↦ ap suc (length_spread n (suc a) (t ∷ ts)) ]

  -- a zero first, where no term has the lowest exponent
  pub spread_skip : (n a b : ℕ) (ts : List (Term X)) → climbs (suc a) ts b ≡ true → spread f mean (suc n) a ts ≡ f.nil ∷ spread f mean n (suc a) ts
  spread_skip n a b [] h = refl
  spread_skip n a b (t ∷ ts) h =
      let s = step t (suc a) ts b h in
      ap (λ e. cond e (mean t.coefficient ∷ spread f mean n (suc a) ts) (f.nil ∷ spread f mean n (suc a) (t ∷ ts))) (ne_eqb t.exponent a (λ e. omega (arith, s.from)))

  -- the first coefficient, where its term has the lowest exponent
  pub spread_hit : (n a : ℕ) (t : Term X) (ts : List (Term X)) → t.exponent ≡ a → spread f mean (suc n) a (t ∷ ts) ≡ mean t.coefficient ∷ spread f mean n (suc a) ts
  spread_hit n a t ts e =
      ap (λ b. cond b (mean t.coefficient ∷ spread f mean n (suc a) ts) (f.nil ∷ spread f mean n (suc a) (t ∷ ts))) (eq-eqb t.exponent a e)

  -- the terms of a list ascend
  pub terms_climb : (a b : ℕ) (xs : List X) → a + length xs ≤ b → climbs a (terms_of f mean a xs) b ≡ true
  terms_climb a b [] w = refl
  terms_climb a b (x ∷ xs) w = go (f.same (mean x) f.nil) (terms_climb (suc a) b xs (omega arith))
    where
      go : (e : Bool) → climbs (suc a) (terms_of f mean (suc a) xs) b ≡ true → climbs a (cond e (terms_of f mean (suc a) xs) (term_of a x ∷ terms_of f mean (suc a) xs)) b ≡ true
      go true h = lower (terms_of f mean (suc a) xs) a b h
      go false h = stepped (term_of a x) a (terms_of f mean (suc a) xs) b (record { from = omega arith; below = omega arith; rest = h })

  pub terms_count : (a : ℕ) (xs : List X) → length (terms_of f mean a xs) ≡ nonzero f (map mean xs)
  terms_count a [] = refl
  terms_count a (x ∷ xs) = go (f.same (mean x) f.nil) (terms_count (suc a) xs) ∙ sym (nonzero_cons f (mean x) (map mean xs))
    where
      go : (e : Bool) → length (terms_of f mean (suc a) xs) ≡ nonzero f (map mean xs)
          → length (cond e (terms_of f mean (suc a) xs) (term_of a x ∷ terms_of f mean (suc a) xs)) ≡ cond e 0 1 + nonzero f (map mean xs)
      go true ih = omega arith
      go false ih = omega arith

  -- one value more
  pub terms_push : (a : ℕ) (xs : List X) (x : X) → terms_of f mean a (xs ++ (x ∷ [])) ≡ terms_of f mean a xs ++ cond (f.same (mean x) f.nil) [] (term_of (a + length xs) x ∷ [])
  terms_push a [] x = ap (λ n. cond (f.same (mean x) f.nil) [] (term_of n x ∷ [])) (sym (add-zero a))
  terms_push a (y ∷ ys) x =
      go (f.same (mean y) f.nil) (terms_push (suc a) ys x ∙ ap (λ n. terms_of f mean (suc a) ys ++ cond (f.same (mean x) f.nil) [] (term_of n x ∷ [])) (omega arith))
    where
      more : List (Term X)
      more = cond (f.same (mean x) f.nil) [] (term_of (a + suc (length ys)) x ∷ [])

      go : (b : Bool) → terms_of f mean (suc a) (ys ++ (x ∷ [])) ≡ terms_of f mean (suc a) ys ++ more
          → cond b (terms_of f mean (suc a) (ys ++ (x ∷ []))) (term_of a y ∷ terms_of f mean (suc a) (ys ++ (x ∷ [])))
          ≡ cond b (terms_of f mean (suc a) ys) (term_of a y ∷ terms_of f mean (suc a) ys) ++ more
      go true h = h
      go false h = ap (λ ts. term_of a y ∷ ts) h

  module _ (laws : Laws f) where
    same_nil : f.same f.nil f.nil ≡ true
    same_nil = go (f.same f.nil f.nil) (laws.same_no f.nil f.nil)
      where
        go : (b : Bool) → (b ≡ false → f.nil ≢ f.nil) → b ≡ true
        go true h = refl
        go false h = absurd (h refl refl)

    nil_first : (ks : List K) → nonzero f (f.nil ∷ ks) ≡ nonzero f ks
    nil_first ks = nonzero_cons f f.nil ks ∙ ap (λ z. cond z 0 1 + nonzero f ks) same_nil ∙ omega arith

    -- the terms of a list spell it
    pub terms_spell : (a : ℕ) (xs : List X) → spread f mean (length xs) a (terms_of f mean a xs) ≡ map mean xs
    terms_spell a [] = refl
    terms_spell a (x ∷ xs) = go (f.same (mean x) f.nil) (laws.same_yes (mean x) f.nil) (terms_spell (suc a) xs)
      where
        go : (e : Bool) → (e ≡ true → mean x ≡ f.nil) → spread f mean (length xs) (suc a) (terms_of f mean (suc a) xs) ≡ map mean xs
            → spread f mean (suc (length xs)) a (cond e (terms_of f mean (suc a) xs) (term_of a x ∷ terms_of f mean (suc a) xs)) ≡ mean x ∷ map mean xs
        go true z ih = spread_skip (length xs) a (suc a + length xs) (terms_of f mean (suc a) xs) (terms_climb (suc a) (suc a + length xs) xs (omega arith)) ∙ ap₂ ◌∷◌ (sym (z refl)) ih
        go false z ih = spread_hit (length xs) a (term_of a x) (terms_of f mean (suc a) xs) refl ∙ ap (λ r. mean x ∷ r) ih

    -- a list has as many coefficients other than zero as its terms
    pub spread_count : (n a b : ℕ) (ts : List (Term X)) → a + n ≡ b → climbs a ts b ≡ true → nonzero f (spread f mean n a ts) ≡ nonzero f (coefficients_of mean ts)
    spread_count zero a b [] e h = refl
    spread_count zero a b (t ∷ ts) e h = let s = step t a ts b h in let u = s.from in let v = s.below in absurd (omega arith)
    spread_count (suc n) a b [] e h = nil_first (spread f mean n (suc a) []) ∙ spread_count n (suc a) b [] (omega arith) refl
    spread_count (suc n) a b (t ∷ ts) e h =
        elim (view t ts a b h) [
          | inl o ↦
              ap (nonzero f) (spread_hit n a t ts o)
              ∙ nonzero_cons f (mean t.coefficient) (spread f mean n (suc a) ts)
              ∙ ap (λ m. cond (f.same (mean t.coefficient) f.nil) 0 1 + m) (spread_count n (suc a) b ts (omega arith) (after t ts a b o h))
              ∙ sym (nonzero_cons f (mean t.coefficient) (coefficients_of mean ts))
          | inr o ↦
              ap (nonzero f) (spread_skip n a b (t ∷ ts) o)
              ∙ nil_first (spread f mean n (suc a) (t ∷ ts))
              ∙ spread_count n (suc a) b (t ∷ ts) (omega arith) o
        ]
