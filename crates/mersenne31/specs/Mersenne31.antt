-- The field of the remainders by a prime.
use Rattle.std.specs.Prelude.{ℕ, zero, suc, ◌+◌, ◌-◌, ◌*◌, ◌/◌, ◌%◌, ◌<◌, ◌≤◌, true, false, ◌==◌, ◌≢◌, nat_le}
use Rattle.std.proofs.Common.{mod-lt, lit<}
use Rattle.field.specs.Below.{Below}
use Rattle.field.specs.Field.{Ops}

-- the prime 2 ^ 31 - 1
abbrev pub p : ℕ
p = 2147483647

-- n is above 1, and no number from 2 on below it divides it
abbrev pub Prime : ℕ → Type 0
Prime n = (1 < n) × ((d : ℕ) → 2 ≤ d → d < n → n % d ≢ 0)

-- the elements: the numbers below p
abbrev pub Remainder : Type 0
Remainder = Below p

-- the remainder of n by p
abbrev pub rem : ℕ → Remainder
rem n = (n % p, mod-lt n (lit< tt))

-- the inverse of a, for 1 ≤ a ≤ k: of 1 it is 1, and since p % a = p - p / a * a, that of a is -(p / a) times that of p % a
abbrev pub invert : ℕ → ℕ → ℕ
invert zero a = 1
invert (suc k) a = elim (nat_le a 1) [ true ↦ 1 | false ↦ (p - p / a) * invert k (p % a) ]

-- the field: arithmetic on remainders; gamma is 7
abbrev pub modulo : Ops Remainder
modulo = record {
  nil = rem 0;
  one = rem 1;
  add = λ a b. rem (a.0 + b.0);
  neg = λ a. rem (p - a.0);
  mul = λ a b. rem (a.0 * b.0);
  inv = λ a. rem (invert a.0 a.0);
  same = λ a b. (a.0 == b.0);
  gamma = rem 7;
  span = 510;
}
