-- An inverse modulo p, from p % a = p - p / a * a.
use Rattle.std.specs.Prelude.{◌≡◌, ℕ, zero, suc, ◌+◌, ◌-◌, ◌*◌, ◌/◌, ◌%◌, ◌<◌, ◌≤◌, Bool, true, false, nat_le, refl}
use Rattle.std.proofs.Common.{sym, ap, subst, ◌∙◌, mod-lt, mul_comm, mul_assoc, add-mul, mod-eq_of_lt, arith, leb-true, leb-false}
use Rattle.std.proofs.Math.Nat.{mod-add-div, mul-sub, add-mul-mod_self_left}
use Rattle.mersenne31.specs.Mersenne31.{p, invert}
use Rattle.mersenne31.specs.ModLemmas.{mod_mul_mod, mul_mod_mod}
use Rattle.mersenne31.specs.Trial.{prime}

-- a * (p - p / a) is p % a and a multiple of p
turn : (a : ℕ) → 0 < a → a * (p - p / a) ≡ p % a + p * (a - 1)
turn a h = omega (arith, mul-sub a p (p / a), mod-add-div p a, mul_comm a p)

step : (a j : ℕ) → 0 < a → (a * ((p - p / a) * j)) % p ≡ (p % a * j) % p
step a j h =
    ap (λ x. x % p) (
    sym (mul_assoc a (p - p / a) j)
    ∙ ap (λ x. x * j) (turn a h)
    ∙ add-mul (p % a) (p * (a - 1)) j
    ∙ ap (λ x. p % a * j + x) (mul_assoc p (a - 1) j)
    )
    ∙ add-mul-mod_self_left (p % a * j) p ((a - 1) * j)

-- what the specification calls an inverse is one
pub inverted : (k a : ℕ) → 0 < a → a < p → a ≤ k → (a * invert k a) % p ≡ 1
inverted zero a lo hi h = absurd (omega arith)
inverted (suc k) a lo hi h =
    go (nat_le a 1) refl (λ g. inverted k (p % a) (prime a g hi) (omega (arith, mod-lt p lo)) (omega (arith, mod-lt p lo)))
  where
    go : (b : Bool) → nat_le a 1 ≡ b → (2 ≤ a → (p % a * invert k (p % a)) % p ≡ 1)
        → (a * (elim b [ true ↦ 1 | false ↦ (p - p / a) * invert k (p % a) ])) % p ≡ 1
    go true t rest = let e : a ≡ 1 = omega (arith, leb-true a 1 t) in subst (λ (n : ℕ). (n * 1) % p ≡ 1) (sym e) refl
    go false t rest = step a (invert k (p % a)) lo ∙ rest (leb-false a 1 t)

-- a turn of the loop: a times t leaves b, and then p % b
pub turned : (a t b : ℕ) → 0 < b → b < p → (a * t) % p ≡ b → (a * ((t * (p - p / b)) % p)) % p ≡ p % b
turned a t b lo hi e =
    let w = p - p / b in
    mul_mod_mod a (t * w) p
    ∙ ap (λ n. n % p) (sym (mul_assoc a t w))
    ∙ sym (mod_mul_mod (a * t) w p)
    ∙ ap (λ n. n % p) (ap (λ n. n * w) e ∙ turn b lo)
    ∙ add-mul-mod_self_left (p % b) p (b - 1)
    ∙ mod-eq_of_lt (omega (arith, mod-lt p lo))
