-- p is prime: no number from 2 to p - 1 divides it. Those up to 65537 are tried; beside a larger divisor stood a smaller.
use Rattle.std.specs.Prelude.{◌≡◌, ℕ, ◌*◌, ◌/◌, ◌%◌, ◌<◌, ◌≤◌, Bool, T, ◌≢◌, nat_lt}
use Rattle.std.proofs.Common.{subst, inl, inr, mul-le-mul_left, mul-le-mul_right, eq-zero-or-pos, arith, ltb→lt}
use Rattle.std.proofs.Math.Nat.{mod-add-div', mul-mod_right}
use Rattle.std.proofs.Math.Decide.{dec_lt}
use Rattle.field.proofs.Sweep.{sweep, swept}
use Rattle.mersenne31.specs.Mersenne31.{p}

abbrev leaves : ℕ → Bool
leaves d = nat_lt 0 (p % d)

tried : T (sweep leaves 16 2)
tried = tt

small : (d : ℕ) → 2 ≤ d → d < 65538 → 0 < p % d
small d lo hi = ltb→lt 0 (p % d) (swept leaves 16 2 tried d lo hi)

pub prime : (a : ℕ) → 2 ≤ a → a < p → 0 < p % a
prime a lo hi = elim (dec_lt a 65538) [ yes h ↦ small a lo h | no h ↦ elim (eq-zero-or-pos (p % a)) [ inl z ↦ absurd (large h z) | inr q ↦ q ] ]
  where
    large : (a < 65538 → ⊥) → p % a ≢ 0
    large h z =
        let e : p / a * a ≡ p = omega (arith, mod-add-div' p a) in
        let b : p / a * 65538 ≤ p / a * a = mul-le-mul_left (p / a) (omega arith) in
        elim (dec_lt (p / a) 2) [
          | yes s ↦ let c : p / a * a ≤ 1 * a = mul-le-mul_right a (omega arith) in omega arith
          | no s ↦ let r : 0 < p % (p / a) = small (p / a) (omega arith) (omega arith) in
              let k : p % (p / a) ≡ 0 = subst (λ (n : ℕ). n % (p / a) ≡ 0) e (mul-mod_right (p / a) a) in omega arith
        ]
