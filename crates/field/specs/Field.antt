-- What a field is: its operations over a type of elements, and the laws that they keep.
use Rattle.std.specs.Prelude.{◌≡◌, ℕ, zero, suc, ◌≤◌, Bool, true, false, ◌≢◌}

-- the operations; `nil` is the zero element, and `inv` means nothing at it
pub record Ops (K : Type 0) : Type 0 where
  pub nil : K
  pub one : K
  pub add : K → K → K
  pub neg : K → K
  pub mul : K → K → K
  pub inv : K → K
  pub same : K → K → Bool
  pub gamma : K
  pub span : ℕ

-- x^k; the zeroth power of any element, zero too, is one
abbrev pub power : {K : Type 0} → Ops K → K → ℕ → K
power f x zero = f.one
power f x (suc k) = f.mul x (power f x k)

-- a field with decidable equality and an element gamma none of whose powers from 1 to span is one
pub record Laws {K : Type 0} (f : Ops K) : Type 0 where
  pub add_assoc : (a b c : K) → f.add (f.add a b) c ≡ f.add a (f.add b c)
  pub add_comm : (a b : K) → f.add a b ≡ f.add b a
  pub add_nil : (a : K) → f.add a f.nil ≡ a
  pub add_neg : (a : K) → f.add a (f.neg a) ≡ f.nil
  pub mul_assoc : (a b c : K) → f.mul (f.mul a b) c ≡ f.mul a (f.mul b c)
  pub mul_comm : (a b : K) → f.mul a b ≡ f.mul b a
  pub mul_one : (a : K) → f.mul a f.one ≡ a
  pub mul_add : (a b c : K) → f.mul a (f.add b c) ≡ f.add (f.mul a b) (f.mul a c)
  pub one_nil : f.one ≡ f.nil → ⊥
  pub mul_inv : (a : K) → (a ≢ f.nil) → f.mul a (f.inv a) ≡ f.one
  pub same_yes : (a b : K) → f.same a b ≡ true → a ≡ b
  pub same_no : (a b : K) → f.same a b ≡ false → a ≢ b
  pub gamma_nil : f.gamma ≡ f.nil → ⊥
  pub gamma_span : (i : ℕ) → 1 ≤ i → i ≤ f.span → power f f.gamma i ≢ f.one

-- an inverse that was answered: a is not zero, and b is its inverse
pub record Inverted {K : Type 0} (f : Ops K) (a b : K) : Type 0 where
  pub stands : a ≡ f.nil → ⊥
  pub is : b ≡ f.inv a
