-- A decision procedure for equations between sums and products of a commutative ring.
use Rattle.std.proofs.Common.{◌≡◌, ℕ, Bool, true, false, cond, T, eqb, leb, List, [], ◌∷◌, get_or, sym, refl, ap, ◌∙◌, ap₂, eqb→eq}
use Rattle.field.specs.Field.{Ops, Laws}
use Rattle.field.proofs.Ring as R

-- an expression over the variables 0, 1, ..
pub data Form : Type 0 where
  var : ℕ → Form
  nul : Form
  uni : Form
  ◌⊕◌ : Form → Form → Form
  ◌⊗◌ : Form → Form → Form
  ⊖◌ : Form → Form

infixl 60 ◌⊕◌
infixl 70 ◌⊗◌
infix 80 ⊖◌
abbrev pub v0 : Form
v0 = var 0

abbrev pub v1 : Form
v1 = var 1

abbrev pub v2 : Form
v2 = var 2

abbrev pub v3 : Form
v3 = var 3

abbrev pub v4 : Form
v4 = var 4

abbrev pub v5 : Form
v5 = var 5

abbrev pub v6 : Form
v6 = var 6

-- a signed product of variables, in order
pub data Mono : Type 0 where
  plus : List ℕ → Mono
  minus : List ℕ → Mono

abbrev pub put_var : ℕ → List ℕ → List ℕ
put_var i [] = i ∷ []
put_var i (j ∷ js) = cond (leb i j) (i ∷ j ∷ js) (j ∷ put_var i js)

abbrev pub both : List ℕ → List ℕ → List ℕ
both [] b = b
both (i ∷ a) b = put_var i (both a b)

abbrev pub times_mono : Mono → Mono → Mono
times_mono (plus a) (plus b) = plus (both a b)
times_mono (plus a) (minus b) = minus (both a b)
times_mono (minus a) (plus b) = minus (both a b)
times_mono (minus a) (minus b) = plus (both a b)

abbrev pub turn : Mono → Mono
turn (plus a) = minus a
turn (minus a) = plus a

abbrev pub same_vars : List ℕ → List ℕ → Bool
same_vars [] [] = true
same_vars [] (j ∷ js) = false
same_vars (i ∷ is) [] = false
same_vars (i ∷ is) (j ∷ js) = cond (eqb i j) (same_vars is js) false

abbrev pub before_vars : List ℕ → List ℕ → Bool
before_vars [] js = true
before_vars (i ∷ is) [] = false
before_vars (i ∷ is) (j ∷ js) = cond (eqb i j) (before_vars is js) (leb i j)

abbrev pub opposite : Mono → Mono → Bool
opposite (plus a) (plus b) = false
opposite (plus a) (minus b) = same_vars a b
opposite (minus a) (plus b) = same_vars a b
opposite (minus a) (minus b) = false

abbrev pub vars_of : Mono → List ℕ
vars_of (plus a) = a
vars_of (minus a) = a

abbrev pub put : Mono → List Mono → List Mono
put t [] = t ∷ []
put t (u ∷ us) = cond (opposite t u) us (cond (before_vars (vars_of t) (vars_of u)) (t ∷ u ∷ us) (u ∷ put t us))

abbrev pub merge : List Mono → List Mono → List Mono
merge [] us = us
merge (t ∷ ts) us = put t (merge ts us)

abbrev pub times_one : Mono → List Mono → List Mono
times_one t [] = []
times_one t (u ∷ us) = put (times_mono t u) (times_one t us)

abbrev pub times : List Mono → List Mono → List Mono
times [] us = []
times (t ∷ ts) us = merge (times_one t us) (times ts us)

abbrev pub turn_all : List Mono → List Mono
turn_all [] = []
turn_all (t ∷ ts) = turn t ∷ turn_all ts

abbrev pub norm : Form → List Mono
norm (var i) = plus (i ∷ []) ∷ []
norm nul = []
norm uni = plus [] ∷ []
norm (a ⊕ b) = merge (norm a) (norm b)
norm (a ⊗ b) = times (norm a) (norm b)
norm (⊖ a) = turn_all (norm a)

same_vars_so : (a b : List ℕ) → T (same_vars a b) → a ≡ b
same_vars_so [] [] h = refl
same_vars_so [] (j ∷ js) h = absurd h
same_vars_so (i ∷ is) [] h = absurd h
same_vars_so (i ∷ is) (j ∷ js) h = go (eqb i j) (λ t. eqb→eq i j t) (same_vars_so is js) h
  where
    go : (b : Bool) → (T b → i ≡ j) → (T (same_vars is js) → is ≡ js) → T (cond b (same_vars is js) false) → (i ∷ is) ≡ (j ∷ js)
    go true e ih h = ap₂ ◌∷◌ (e tt) (ih h)
    go false e ih h = absurd h

module _ {K : Type 0} (f : Ops K) (laws : Laws f) (ρ : ℕ → K) where
  open f use {nil, one, add as ◌+◌, mul as ◌*◌, neg}
  open laws use {add_assoc, add_comm, add_nil, add_neg, mul_assoc, mul_comm, mul_one, mul_add}

  infixl 60 ◌+◌
  infixl 70 ◌*◌
  abbrev pub at : Form → K
  at (var i) = ρ i
  at nul = nil
  at uni = one
  at (a ⊕ b) = at a + at b
  at (a ⊗ b) = at a * at b
  at (⊖ a) = neg (at a)

  abbrev pub at_vars : List ℕ → K
  at_vars [] = one
  at_vars (i ∷ is) = ρ i * at_vars is

  abbrev pub at_mono : Mono → K
  at_mono (plus a) = at_vars a
  at_mono (minus a) = neg (at_vars a)

  abbrev pub at_all : List Mono → K
  at_all [] = nil
  at_all (t ∷ ts) = at_mono t + at_all ts

  put_var_at : (i : ℕ) (js : List ℕ) → at_vars (put_var i js) ≡ ρ i * at_vars js
  put_var_at i [] = refl
  put_var_at i (j ∷ js) =
      elim (leb i j) as (λ b. at_vars (cond b (i ∷ j ∷ js) (j ∷ put_var i js)) ≡ ρ i * (ρ j * at_vars js))
      [ true ↦ refl | false ↦ ap (λ x. ρ j * x) (put_var_at i js) ∙ R.mul_left_comm f laws (ρ j) (ρ i) (at_vars js) ]

  both_at : (a b : List ℕ) → at_vars (both a b) ≡ at_vars a * at_vars b
  both_at [] b = sym (R.one_mul f laws (at_vars b))
  both_at (i ∷ a) b = put_var_at i (both a b) ∙ ap (λ x. ρ i * x) (both_at a b) ∙ sym (mul_assoc (ρ i) (at_vars a) (at_vars b))

  times_mono_at : (t u : Mono) → at_mono (times_mono t u) ≡ at_mono t * at_mono u
  times_mono_at (plus a) (plus b) = both_at a b
  times_mono_at (plus a) (minus b) = ap neg (both_at a b) ∙ sym (R.mul_neg f laws (at_vars a) (at_vars b))
  times_mono_at (minus a) (plus b) = ap neg (both_at a b) ∙ sym (R.neg_mul f laws (at_vars a) (at_vars b))
  times_mono_at (minus a) (minus b) = both_at a b ∙ sym (R.neg_mul f laws (at_vars a) (neg (at_vars b)) ∙ ap neg (R.mul_neg f laws (at_vars a) (at_vars b)) ∙ R.neg_neg f laws (at_vars a * at_vars b))

  turn_at : (t : Mono) → at_mono (turn t) ≡ neg (at_mono t)
  turn_at (plus a) = refl
  turn_at (minus a) = sym (R.neg_neg f laws (at_vars a))

  opposite_at : (t u : Mono) → T (opposite t u) → at_mono t + at_mono u ≡ nil
  opposite_at (plus a) (plus b) h = absurd h
  opposite_at (plus a) (minus b) h = ap (λ x. at_vars x + neg (at_vars b)) (same_vars_so a b h) ∙ add_neg (at_vars b)
  opposite_at (minus a) (plus b) h = ap (λ x. neg (at_vars x) + at_vars b) (same_vars_so a b h) ∙ R.neg_add_self f laws (at_vars b)
  opposite_at (minus a) (minus b) h = absurd h

  put_at : (t : Mono) (us : List Mono) → at_all (put t us) ≡ at_mono t + at_all us
  put_at t [] = refl
  put_at t (u ∷ us) = go (opposite t u) (opposite_at t u) (put_at t us)
    where
      go : (b : Bool) → (T b → at_mono t + at_mono u ≡ nil) → at_all (put t us) ≡ at_mono t + at_all us
          → at_all (cond b us (cond (before_vars (vars_of t) (vars_of u)) (t ∷ u ∷ us) (u ∷ put t us))) ≡ at_mono t + (at_mono u + at_all us)
      go true e ih = sym (sym (add_assoc (at_mono t) (at_mono u) (at_all us)) ∙ ap (λ x. x + at_all us) (e tt) ∙ R.nil_add f laws (at_all us))
      go false e ih =
          elim (before_vars (vars_of t) (vars_of u)) as (λ b. at_all (cond b (t ∷ u ∷ us) (u ∷ put t us)) ≡ at_mono t + (at_mono u + at_all us))
          [ true ↦ refl | false ↦ ap (λ x. at_mono u + x) ih ∙ R.add_left_comm f laws (at_mono u) (at_mono t) (at_all us) ]

  merge_at : (ts us : List Mono) → at_all (merge ts us) ≡ at_all ts + at_all us
  merge_at [] us = sym (R.nil_add f laws (at_all us))
  merge_at (t ∷ ts) us = put_at t (merge ts us) ∙ ap (λ x. at_mono t + x) (merge_at ts us) ∙ sym (add_assoc (at_mono t) (at_all ts) (at_all us))

  times_one_at : (t : Mono) (us : List Mono) → at_all (times_one t us) ≡ at_mono t * at_all us
  times_one_at t [] = sym (R.mul_nil f laws (at_mono t))
  times_one_at t (u ∷ us) = put_at (times_mono t u) (times_one t us) ∙ ap₂ ◌+◌ (times_mono_at t u) (times_one_at t us) ∙ sym (mul_add (at_mono t) (at_mono u) (at_all us))

  times_at : (ts us : List Mono) → at_all (times ts us) ≡ at_all ts * at_all us
  times_at [] us = sym (R.nil_mul f laws (at_all us))
  times_at (t ∷ ts) us = merge_at (times_one t us) (times ts us) ∙ ap₂ ◌+◌ (times_one_at t us) (times_at ts us) ∙ sym (R.add_mul f laws (at_mono t) (at_all ts) (at_all us))

  turn_all_at : (ts : List Mono) → at_all (turn_all ts) ≡ neg (at_all ts)
  turn_all_at [] = sym (R.neg_nil f laws)
  turn_all_at (t ∷ ts) = ap₂ ◌+◌ (turn_at t) (turn_all_at ts) ∙ sym (R.neg_add f laws (at_mono t) (at_all ts))

  norm_at : (a : Form) → at_all (norm a) ≡ at a
  norm_at (var i) = add_nil (ρ i * one) ∙ mul_one (ρ i)
  norm_at nul = refl
  norm_at uni = add_nil one
  norm_at (a ⊕ b) = merge_at (norm a) (norm b) ∙ ap₂ ◌+◌ (norm_at a) (norm_at b)
  norm_at (a ⊗ b) = times_at (norm a) (norm b) ∙ ap₂ ◌*◌ (norm_at a) (norm_at b)
  norm_at (⊖ a) = turn_all_at (norm a) ∙ ap neg (norm_at a)

-- the two forms are equal at the listed values of the variables, if their normal forms are
pub ring : {K : Type 0} (f : Ops K) (laws : Laws f) (xs : List K) (a b : Form) → norm a ≡ norm b
    → at f laws (λ i. get_or xs i f.nil) a ≡ at f laws (λ i. get_or xs i f.nil) b
ring f laws xs a b e = let ρ = λ (i : ℕ). get_or xs i f.nil in sym (norm_at f laws ρ a) ∙ ap (at_all f laws ρ) e ∙ norm_at f laws ρ b
