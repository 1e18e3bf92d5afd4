-- Lists of coefficients by their terms.
use Rattle.std.specs.Prelude.{◌≡◌, ℕ, zero, suc, Bool, true, not, cond, ◌&&◌, List, [], ◌∷◌, map, length, count_by, ◌==◌, nat_le, nat_lt}
use Rattle.std.specs.List.{list_all}
use Rattle.field.specs.Field.{Ops}
use Rattle.oracle.specs.Tables.{Kept}
use Rattle.sparse_oracle.specs.declared.term.Term.{Term}

-- how many elements of a list are not zero
abbrev pub nonzero : {K : Type 0} → Ops K → List K → ℕ
nonzero f ks = count_by (λ k. not (f.same k f.nil)) ks

-- the term with an exponent and a coefficient
abbrev pub term_of : {X : Type 0} → ℕ → X → Term X
term_of e x = record { exponent = e; coefficient = x }

-- the coefficients of terms
abbrev pub coefficients_of : {X K : Type 0} → (X → K) → List (Term X) → List K
coefficients_of mean ts = map (λ t. mean t.coefficient) ts

-- the terms of a list whose first value has the exponent a: one for each value other than zero
abbrev pub terms_of : {X K : Type 0} → Ops K → (X → K) → ℕ → List X → List (Term X)
terms_of f mean a [] = []
terms_of f mean a (x ∷ xs) = cond (f.same (mean x) f.nil) (terms_of f mean (suc a) xs) (term_of a x ∷ terms_of f mean (suc a) xs)

-- the exponents ascend from a on, and stay below b
abbrev pub climbs : {X : Type 0} → ℕ → List (Term X) → ℕ → Bool
climbs a [] b = true
climbs a (t ∷ ts) b = (nat_le a t.exponent && nat_lt t.exponent b) && climbs (suc t.exponent) ts b

-- n coefficients from the exponent a on: at each, that of the next term if it has this exponent, else zero
abbrev pub spread : {X K : Type 0} → Ops K → (X → K) → ℕ → ℕ → List (Term X) → List K
spread f mean zero a ts = []
spread f mean (suc n) a [] = f.nil ∷ spread f mean n (suc a) []
spread f mean (suc n) a (t ∷ ts) = cond (t.exponent == a) (mean t.coefficient ∷ spread f mean n (suc a) ts) (f.nil ∷ spread f mean n (suc a) (t ∷ ts))

-- terms spell a list: their exponents ascend below its length, and it has their coefficients there and zeros elsewhere
pub record Spells {X K : Type 0} (f : Ops K) (mean : X → K) (ts : List (Term X)) (p : List K) : Type 0 where
  pub ascend : climbs 0 ts (length p) ≡ true
  pub filled : spread f mean (length p) 0 ts ≡ p

-- the exponents of each list of terms ascend from 0 on below the number of its coefficients
abbrev pub all_climb : {X : Type 0} → List (Kept (Term X)) → Bool
all_climb ps = list_all (λ p. climbs 0 p.items p.long) ps

-- each list of terms as the list of its coefficients
abbrev pub spreads : {X K : Type 0} → Ops K → (X → K) → List (Kept (Term X)) → List (List K)
spreads f mean ps = map (λ p. spread f mean p.long 0 p.items) ps
