-- The laws of the field.
use Rattle.std.specs.Prelude.{◌≡◌, ℕ, ◌+◌, ◌*◌, ◌%◌, ◌<◌, ◌≢◌}
use Rattle.std.proofs.Common.{sym, ap, ◌∙◌, inl, inr, add_assoc, add_comm, add-zero, mod-eq_of_lt, mul_assoc, mul_comm, mul-one, mul-add, le_refl, eq-zero-or-pos, arith}
use Rattle.std.proofs.Math.Nat.{mod-add-mod, add-mod-mod, add-mod}
use Rattle.field.specs.Field.{Laws, Inverted}
use Rattle.field.proofs.Numbers.{below_path, same_yes, same_no}
use Rattle.field.proofs.Ring.{nil_mul}
use Rattle.field.proofs.Spans.{spans}
use Rattle.field.proofs.Unique.{unique}
use Rattle.mersenne31.specs.Mersenne31.{p, Remainder, rem, invert, modulo}
use Rattle.mersenne31.specs.ModLemmas.{mod_mul_mod, mul_mod_mod, mods_mul}
use Rattle.mersenne31.specs.Inverse.{inverted}

positive : (a : Remainder) → (a ≢ rem 0) → 0 < a.0
positive a stands = elim (eq-zero-or-pos a.0) [ inl z ↦ absurd (stands (below_path p z)) | inr h ↦ h ]

apart : (a b : Remainder) → (a.0 ≢ b.0) → a ≢ b
apart a b h e = h (ap (λ (x : Remainder). x.0) e)

pub laws : Laws modulo
laws = record {
  add_assoc = λ a b c. below_path p (mod-add-mod (a.0 + b.0) p c.0 ∙ ap (λ x. x % p) (add_assoc a.0 b.0 c.0) ∙ sym (add-mod-mod a.0 (b.0 + c.0) p));
  add_comm = λ a b. ap rem (add_comm a.0 b.0);
  add_nil = λ a. below_path p (ap (λ x. x % p) (add-zero a.0) ∙ mod-eq_of_lt a.1);
  add_neg = λ a. below_path p (let h = a.1 in omega arith);
  mul_assoc = λ a b c. below_path p (mod_mul_mod (a.0 * b.0) c.0 p ∙ ap (λ x. x % p) (mul_assoc a.0 b.0 c.0) ∙ sym (mul_mod_mod a.0 (b.0 * c.0) p));
  mul_comm = λ a b. ap rem (mul_comm a.0 b.0);
  mul_one = λ a. below_path p (ap (λ x. x % p) (mul-one a.0) ∙ mod-eq_of_lt a.1);
  mul_add = λ a b c. below_path p (mul_mod_mod a.0 (b.0 + c.0) p ∙ ap (λ x. x % p) (mul-add a.0 b.0 c.0) ∙ add-mod (a.0 * b.0) (a.0 * c.0) p);
  one_nil = apart (rem 1) (rem 0) (omega arith);
  mul_inv = λ a h. below_path p (mul_mod_mod a.0 (invert a.0 a.0) p ∙ inverted a.0 a.0 (positive a h) a.1 (le_refl a.0));
  same_yes = same_yes p;
  same_no = same_no p;
  gamma_nil = apart (rem 7) (rem 0) (omega arith);
  gamma_span = spans modulo (same_no p) 510 tt;
}

-- two numbers whose product leaves 1 are inverse to each other
pub reciprocals : (a b : ℕ) → (a * b) % p ≡ 1 → Inverted modulo (rem a) (rem b)
reciprocals a b e = record { stands = stands; is = unique modulo laws (rem a) (rem b) stands one }
  where
    one : rem (a % p * (b % p)) ≡ rem 1
    one = below_path p (mods_mul a b p ∙ e)

    stands : rem a ≡ rem 0 → ⊥
    stands z = laws.one_nil (sym one ∙ ap (λ x. modulo.mul x (rem b)) z ∙ nil_mul modulo laws (rem b))
