-- The field of FIPS 197: a byte is a polynomial over the bits, bit i the coefficient of x ^ i, modulo x ^ 8 + x ^ 4 + x ^ 3 + x + 1.
use Rattle.std.specs.Prelude.{ℕ, zero, suc, ◌*◌, ◌/◌, ◌%◌, min, Bool, true, ◌&&◌, List, [], ◌∷◌, ◌==◌, bit_xor}
use Rattle.std.proofs.Common.{mod-lt, lit<}
use Rattle.field.specs.Below.{Below}
use Rattle.field.specs.Field.{Ops}

-- the elements: the numbers below 256
abbrev pub Byte : Type 0
Byte = Below 256

-- the lowest eight bits of n
abbrev pub low : ℕ → Byte
low n = (n % 256, mod-lt n (lit< tt))

-- x times a: the coefficients move up, and x ^ 8 is x ^ 4 + x ^ 3 + x + 1
abbrev pub shifted : ℕ → ℕ
shifted a = bit_xor (a % 128 * 2) (a / 128 * 0x1b)

-- a times the lowest k bits of b: the lowest bit times a, plus the others times x times a
abbrev pub product : ℕ → ℕ → ℕ → ℕ
product zero a b = 0
product (suc k) a b = bit_xor (b % 2 * a) (product k (shifted a) (b / 2))

-- the product of two bytes
abbrev pub times : ℕ → ℕ → ℕ
times a b = product 8 a b

-- a ^ 2 times a ^ 4 and so on to a ^ (2 ^ k), which at k = 7 is a ^ 254
abbrev pub squares : ℕ → ℕ → ℕ
squares zero a = 1
squares (suc k) a = let s = times a a in times s (squares k s)

-- the field: a sum is bit by bit, so -a is a; the inverse of a is a ^ 254; gamma is x + 1
abbrev pub bytes : Ops Byte
bytes = record {
  nil = low 0;
  one = low 1;
  add = λ a b. low (bit_xor a.0 b.0);
  neg = λ a. a;
  mul = λ a b. low (times a.0 b.0);
  inv = λ a. low (squares 7 a.0);
  same = λ a b. (a.0 == b.0);
  gamma = low 3;
  span = 254;
}

-- xs holds inverses of n, n + 1 and so on, one for each; in the place of 0, which has none, stands anything
abbrev pub inverts : ℕ → List ℕ → Bool
inverts n [] = true
inverts n (x ∷ xs) = times n x == min n 1 && inverts (suc n) xs
