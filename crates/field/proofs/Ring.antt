-- Rules of a commutative ring that follow from the laws.
use Rattle.std.proofs.Common.{◌≡◌, sym, ap, ◌∙◌}
use Rattle.field.specs.Field.{Ops, Laws}

module _ {K : Type 0} (f : Ops K) (laws : Laws f) where
  open f use {nil, one, add as ◌+◌, mul as ◌*◌, neg}
  open laws use {add_assoc, add_comm, add_nil, add_neg, mul_assoc, mul_comm, mul_one, mul_add}

  infixl 60 ◌+◌
  infixl 70 ◌*◌
  pub add_left_comm : (a b c : K) → a + (b + c) ≡ b + (a + c)
  add_left_comm a b c = sym (add_assoc a b c) ∙ ap (λ x. x + c) (add_comm a b) ∙ add_assoc b a c

  pub mul_left_comm : (a b c : K) → a * (b * c) ≡ b * (a * c)
  mul_left_comm a b c = sym (mul_assoc a b c) ∙ ap (λ x. x * c) (mul_comm a b) ∙ mul_assoc b a c

  pub add_mul : (a b c : K) → (a + b) * c ≡ a * c + b * c
  add_mul a b c = rw (mul_comm (a + b) c, mul_comm a c, mul_comm b c) (mul_add c a b)

  pub nil_add : (a : K) → nil + a ≡ a
  nil_add a = add_comm nil a ∙ add_nil a

  pub neg_add_cancel : (a b : K) → neg a + (a + b) ≡ b
  neg_add_cancel a b = sym (add_assoc (neg a) a b) ∙ ap (λ x. x + b) (add_comm (neg a) a ∙ add_neg a) ∙ nil_add b

  pub add_left_cancel : (a b c : K) → a + b ≡ a + c → b ≡ c
  add_left_cancel a b c e = sym (neg_add_cancel a b) ∙ ap (λ x. neg a + x) e ∙ neg_add_cancel a c

  pub mul_nil : (a : K) → a * nil ≡ nil
  mul_nil a = add_left_cancel (a * nil) (a * nil) nil (sym (mul_add a nil nil) ∙ ap (λ x. a * x) (add_nil nil) ∙ sym (add_nil (a * nil)))

  pub nil_mul : (a : K) → nil * a ≡ nil
  nil_mul a = mul_comm nil a ∙ mul_nil a

  pub add_right_cancel : (a b c : K) → a + c ≡ b + c → a ≡ b
  add_right_cancel a b c e = add_left_cancel c a b (add_comm c a ∙ e ∙ add_comm b c)

  pub add_neg_cancel : (a b : K) → a + (neg a + b) ≡ b
  add_neg_cancel a b = sym (add_assoc a (neg a) b) ∙ ap (λ x. x + b) (add_neg a) ∙ nil_add b

  pub neg_add_self : (a : K) → neg a + a ≡ nil
  neg_add_self a = add_comm (neg a) a ∙ add_neg a

  -- what added to a gives nil is neg a
  pub neg_only : (a b : K) → a + b ≡ nil → b ≡ neg a
  neg_only a b e = add_left_cancel a b (neg a) (e ∙ sym (add_neg a))

  pub neg_neg : (a : K) → neg (neg a) ≡ a
  neg_neg a = sym (neg_only (neg a) a (neg_add_self a))

  pub neg_nil : neg nil ≡ nil
  neg_nil = sym (neg_only nil nil (add_nil nil))

  pub neg_add : (a b : K) → neg (a + b) ≡ neg a + neg b
  neg_add a b = sym (neg_only (a + b) (neg a + neg b) (simp (add_assoc, add_left_comm b (neg a) (neg b), add_neg, add_nil)))

  pub mul_neg : (a b : K) → a * neg b ≡ neg (a * b)
  mul_neg a b = neg_only (a * b) (a * neg b) (sym (mul_add a b (neg b)) ∙ ap (λ x. a * x) (add_neg b) ∙ mul_nil a)

  pub neg_mul : (a b : K) → neg a * b ≡ neg (a * b)
  neg_mul a b = mul_comm (neg a) b ∙ mul_neg b a ∙ ap neg (mul_comm b a)

  pub one_mul : (a : K) → one * a ≡ a
  one_mul a = mul_comm one a ∙ mul_one a

  -- a difference is nil where the two are equal, and only there
  pub sub_nil : (a b : K) → a ≡ b → a + neg b ≡ nil
  sub_nil a b e = ap (λ x. x + neg b) e ∙ add_neg b

  pub sub_same : (a b : K) → a + neg b ≡ nil → a ≡ b
  sub_same a b e = sym (neg_neg a) ∙ ap neg (sym (neg_only a (neg b) e)) ∙ neg_neg b
