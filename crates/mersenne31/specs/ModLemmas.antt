-- The remainder of a product from the remainders of its factors.
use Rattle.std.specs.Prelude.{◌≡◌, ℕ, ◌+◌, ◌*◌, ◌/◌, ◌%◌}
use Rattle.std.proofs.Common.{sym, ap, ◌∙◌, add-mul, mul_assoc, mul_comm}
use Rattle.std.proofs.Math.Nat.{mod-add-div', add-mul-mod_self_right}

pub mod_mul_mod : (a b m : ℕ) → (a % m * b) % m ≡ (a * b) % m
mod_mul_mod a b m =
    sym (
    ap (λ x. (x * b) % m) (sym (mod-add-div' a m))
    ∙ ap (λ x. x % m) (add-mul (a % m) (a / m * m) b ∙ ap (λ x. a % m * b + x) (mul_assoc (a / m) m b ∙ ap (λ x. a / m * x) (mul_comm m b) ∙ sym (mul_assoc (a / m) b m)))
    ∙ add-mul-mod_self_right (a % m * b) (a / m * b) m
    )

pub mul_mod_mod : (a b m : ℕ) → (a * (b % m)) % m ≡ (a * b) % m
mul_mod_mod a b m = ap (λ x. x % m) (mul_comm a (b % m)) ∙ mod_mul_mod b a m ∙ ap (λ x. x % m) (mul_comm b a)

pub mods_mul : (a b m : ℕ) → (a % m * (b % m)) % m ≡ (a * b) % m
mods_mul a b m = mul_mod_mod (a % m) b m ∙ mod_mul_mod a b m
