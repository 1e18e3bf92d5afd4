-- Maps that keep xor: two that agree at the eight bytes with one bit agree at all.
use Rattle.std.specs.Prelude.{◌≡◌, ℕ, zero, suc, ◌*◌, ◌/◌, ◌%◌, ◌^◌, ◌<◌, ◌≤◌}
use Rattle.std.proofs.Common.{sym, ap, ap₂, ◌∙◌, div-add-mod', mod-lt, one-mul, zero-mul, pow-suc, arith, pow_pos, pow_mono}
use Rattle.std.specs.Int.Bits.{bit_xor, xor_assoc, xor_self, xor_zero_l, xor_zero_r, xor_shifted}
use Rattle.std.proofs.lemmas.Nat.{div_below, xor_comm}

pub swap : (a b c d : ℕ) → bit_xor (bit_xor a b) (bit_xor c d) ≡ bit_xor (bit_xor a c) (bit_xor b d)
swap a b c d =
    xor_assoc a b (bit_xor c d)
    ∙ ap (bit_xor a) (sym (xor_assoc b c d) ∙ ap (λ x. bit_xor x d) (xor_comm b c) ∙ xor_assoc c b d)
    ∙ sym (xor_assoc a c (bit_xor b d))

-- a bit times a number
pub xor_times : (u v n : ℕ) → u < 2 → v < 2 → bit_xor u v * n ≡ bit_xor (u * n) (v * n)
xor_times zero v n hu hv = ap (λ x. x * n) (xor_zero_l v) ∙ sym (ap (λ x. bit_xor x (v * n)) (zero-mul n) ∙ xor_zero_l (v * n))
xor_times (suc zero) zero n hu hv = sym (ap (bit_xor (1 * n)) (zero-mul n) ∙ xor_zero_r (1 * n))
xor_times (suc zero) (suc zero) n hu hv = zero-mul n ∙ sym (xor_self (1 * n))
xor_times (suc zero) (suc (suc v)) n hu hv = absurd (omega arith)
xor_times (suc (suc u)) v n hu hv = absurd (omega arith)

pub bit_dist : (u m n : ℕ) → u < 2 → u * bit_xor m n ≡ bit_xor (u * m) (u * n)
bit_dist zero m n h = zero-mul (bit_xor m n) ∙ sym (ap₂ bit_xor (zero-mul m) (zero-mul n) ∙ xor_zero_l 0)
bit_dist (suc zero) m n h = one-mul (bit_xor m n) ∙ sym (ap₂ bit_xor (one-mul m) (one-mul n))
bit_dist (suc (suc u)) m n h = absurd (omega arith)

abbrev pub Linear : (ℕ → ℕ) → Type 0
Linear f = (a b : ℕ) → a < 256 → b < 256 → f (bit_xor a b) ≡ bit_xor (f a) (f b)

at_zero : (f : ℕ → ℕ) → Linear f → f 0 ≡ 0
at_zero f l = l 0 0 (omega arith) (omega arith) ∙ xor_self (f 0)

module _ (f g : ℕ → ℕ) (lf : Linear f) (lg : Linear g) (basis : (i : ℕ) → i < 8 → f (2 ^ i) ≡ g (2 ^ i)) where
  by_bit : (k : ℕ) → k < 8 → (u : ℕ) → u < 2 → f (u * 2 ^ k) ≡ g (u * 2 ^ k)
  by_bit k h zero b = ap f (zero-mul (2 ^ k)) ∙ at_zero f lf ∙ sym (ap g (zero-mul (2 ^ k)) ∙ at_zero g lg)
  by_bit k h (suc zero) b = ap f (one-mul (2 ^ k)) ∙ basis k h ∙ sym (ap g (one-mul (2 ^ k)))
  by_bit k h (suc (suc u)) b = absurd (omega arith)

  below : (k : ℕ) → k ≤ 8 → (a : ℕ) → a < 2 ^ k → f a ≡ g a
  below zero h a b = let e : a ≡ 0 = omega arith in ap f e ∙ at_zero f lf ∙ sym (ap g e ∙ at_zero g lg)
  below (suc k) h a b =
      let u = a / 2 ^ k in
      let r = a % 2 ^ k in
      let m : r < 2 ^ k = mod-lt a (pow_pos k) in
      let e : bit_xor (u * 2 ^ k) r ≡ a = xor_shifted u k r m ∙ div-add-mod' a (2 ^ k) in
      let w : 2 ^ suc k ≤ 2 ^ 8 = pow_mono h in
      let hu : u < 2 = div_below a (2 ^ k) 2 (pow_pos k) (omega (arith, pow-suc 2 k)) in
      let hr : r < 256 = omega (arith, pow-suc 2 k) in
      let ht : u * 2 ^ k < 256 = omega (arith, div-add-mod' a (2 ^ k)) in
      ap f (sym e) ∙ lf (u * 2 ^ k) r ht hr
      ∙ ap₂ bit_xor (by_bit k h u hu) (below k (omega arith) r m)
      ∙ sym (ap g (sym e) ∙ lg (u * 2 ^ k) r ht hr)

  pub agree : (a : ℕ) → a < 256 → f a ≡ g a
  agree a h = below 8 (omega arith) a h
