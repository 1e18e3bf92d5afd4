-- The laws of the field.
use Rattle.std.specs.Prelude.{◌≡◌, ℕ, ◌%◌, ◌<◌, Bool, true, false, ◌||◌, T, ◌==◌, ◌≢◌, bit_xor, nat_eq}
use Rattle.std.proofs.Common.{sym, ap, ap₂, ◌∙◌, mod-eq_of_lt, arith, eqb→eq, ne_eqb}
use Rattle.std.proofs.lemmas.Nat.{xor_lt, xor_comm}
use Rattle.std.specs.Int.Bits.{xor_assoc, xor_zero_r, xor_self}
use Rattle.field.specs.Field.{Laws, Inverted}
use Rattle.field.proofs.Numbers.{below_path, same_yes, same_no}
use Rattle.field.proofs.Ring.{nil_mul}
use Rattle.field.proofs.Spans.{spans}
use Rattle.field.proofs.Unique.{unique}
use Rattle.gf256.specs.Gf256.{Byte, low, times, squares, bytes}
use Rattle.gf256.specs.Times.{each, product_lt, right, times_comm, times_assoc}

sum : (a b : Byte) → bit_xor a.0 b.0 % 256 ≡ bit_xor a.0 b.0
sum a b = mod-eq_of_lt (xor_lt 8 a.0 b.0 a.1 b.1)

whole : (a b : ℕ) → a < 256 → times a b % 256 ≡ times a b
whole a b h = mod-eq_of_lt (product_lt 8 a b h)

apart : (a b : Byte) → (a.0 ≢ b.0) → a ≢ b
apart a b h e = h (ap (λ (x : Byte). x.0) e)

unit : (a : ℕ) → a < 256 → times a 1 ≡ a
unit a h = eqb→eq (times a 1) a (each (λ n. nat_eq (times n 1) n) tt a h)

inverse : (a : ℕ) → a < 256 → (a ≢ 0) → times a (squares 7 a % 256) ≡ 1
inverse a h stands = eqb→eq _ 1 (pass (a == 0) _ (ne_eqb a 0 stands) (each turns tt a h))
  where
    turns : ℕ → Bool
    turns n = n == 0 || times n (squares 7 n % 256) == 1

    pass : (b t : Bool) → b ≡ false → T (b || t) → T t
    pass true t e h = absurd (let z : ◌≡◌ {A = ℕ} 0 1 = cc in omega arith)
    pass false t e h = h

pub laws : Laws bytes
laws = record {
  add_assoc = λ a b c. below_path 256 (ap (λ x. x % 256) (ap (λ x. bit_xor x c.0) (sum a b) ∙ xor_assoc a.0 b.0 c.0 ∙ ap (bit_xor a.0) (sym (sum b c))));
  add_comm = λ a b. ap low (xor_comm a.0 b.0);
  add_nil = λ a. below_path 256 (ap (λ x. x % 256) (xor_zero_r a.0) ∙ mod-eq_of_lt a.1);
  add_neg = λ a. ap low (xor_self a.0);
  mul_assoc = λ a b c. below_path 256 (ap (λ x. x % 256) (ap (λ x. times x c.0) (whole a.0 b.0 a.1) ∙ times_assoc a.0 b.0 c.0 a.1 b.1 c.1 ∙ ap (times a.0) (sym (whole b.0 c.0 b.1))));
  mul_comm = λ a b. ap low (times_comm a.0 b.0 a.1 b.1);
  mul_one = λ a. below_path 256 (ap (λ x. x % 256) (unit a.0 a.1) ∙ mod-eq_of_lt a.1);
  mul_add = λ a b c. below_path 256 (ap (λ x. x % 256) (ap (times a.0) (sum b c) ∙ right a.0 b.0 c.0 b.1 c.1 ∙ sym (ap₂ bit_xor (whole a.0 b.0 a.1) (whole a.0 c.0 a.1))));
  one_nil = apart (low 1) (low 0) (omega arith);
  mul_inv = λ a h. below_path 256 (ap (λ x. x % 256) (inverse a.0 a.1 (λ z. h (below_path 256 z))));
  same_yes = same_yes 256;
  same_no = same_no 256;
  gamma_nil = apart (low 3) (low 0) (omega arith);
  gamma_span = spans bytes (same_no 256) 254 tt;
}

-- two bytes whose product is 1 are inverse to each other
pub reciprocals : (a b : ℕ) → a < 256 → b < 256 → times a b ≡ 1 → Inverted bytes (low a) (low b)
reciprocals a b ha hb e = record { stands = stands; is = unique bytes laws (low a) (low b) stands one }
  where
    one : low (times (a % 256) (b % 256)) ≡ low 1
    one = ap low (ap₂ times (mod-eq_of_lt ha) (mod-eq_of_lt hb) ∙ e)

    stands : low a ≡ low 0 → ⊥
    stands z = laws.one_nil (sym one ∙ ap (λ x. bytes.mul x (low b)) z ∙ nil_mul bytes laws (low b))
