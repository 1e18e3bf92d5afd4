-- The product is linear on both sides, and so its laws hold where they hold at the bytes with one bit.
use Rattle.std.specs.Prelude.{◌≡◌, ℕ, zero, suc, ◌+◌, ◌*◌, ◌/◌, ◌%◌, ◌^◌, ◌<◌, Bool, T, ◌==◌, nat_lt, refl}
use Rattle.std.proofs.Common.{sym, ap, ap₂, ◌∙◌, mod-lt, arith, ltb→lt, eqb→eq, lit<}
use Rattle.std.specs.Int.Bits.{bit_xor}
use Rattle.std.proofs.lemmas.Nat.{xor_lt, xor_shr, xor_mod, xor_block}
use Rattle.std.proofs.Math.Pow.{pow-lt}
use Rattle.field.proofs.Sweep.{sweep, swept}
use Rattle.gf256.specs.Gf256.{shifted, product, times}
use Rattle.gf256.specs.Linear.{Linear, swap, xor_times, bit_dist, agree}

-- a test at each byte
pub each : (f : ℕ → Bool) → T (sweep f 8 0) → (a : ℕ) → a < 256 → T (f a)
each f t a h = swept f 8 0 t a (omega arith) (omega arith)

pub shifted_lt : (a : ℕ) → a < 256 → shifted a < 256
shifted_lt a h = ltb→lt (shifted a) 256 (each (λ n. nat_lt (shifted n) 256) tt a h)

doubled : (a b : ℕ) → bit_xor a b * 2 ≡ bit_xor (a * 2) (b * 2)
doubled a b = sym (ap₂ bit_xor (shape a) (shape b) ∙ xor_block 1 a b 0 0 (lit< tt) (lit< tt) ∙ sym (shape (bit_xor a b)))
  where
    shape : (n : ℕ) → n * 2 ≡ n * 2 + 0
    shape n = omega arith

shifted_xor : Linear shifted
shifted_xor a b ha hb =
    ap₂ bit_xor (ap (λ x. x * 2) (xor_mod a b 7) ∙ doubled (a % 128) (b % 128))
    (ap (λ x. x * 0x1b) (xor_shr a b 7) ∙ xor_times (a / 128) (b / 128) 0x1b (omega arith) (omega arith))
    ∙ swap (a % 128 * 2) (b % 128 * 2) (a / 128 * 0x1b) (b / 128 * 0x1b)

pub bit_lt : (u a : ℕ) → u < 2 → a < 256 → u * a < 256
bit_lt zero a hu h = omega arith
bit_lt (suc zero) a hu h = omega arith
bit_lt (suc (suc u)) a hu h = absurd (omega arith)

pub product_lt : (k a b : ℕ) → a < 256 → product k a b < 256
product_lt zero a b h = omega arith
product_lt (suc k) a b h =
    xor_lt 8 (b % 2 * a) (product k (shifted a) (b / 2)) (bit_lt (b % 2) a (mod-lt b (lit< tt)) h) (product_lt k (shifted a) (b / 2) (shifted_lt a h))

pub left : (k b : ℕ) → Linear (λ a. product k a b)
left zero b a c ha hc = refl
left (suc k) b a c ha hc =
    ap₂ bit_xor (bit_dist (b % 2) a c (mod-lt b (lit< tt)))
    (ap (λ x. product k x (b / 2)) (shifted_xor a c ha hc) ∙ left k (b / 2) (shifted a) (shifted c) (shifted_lt a ha) (shifted_lt c hc))
    ∙ swap (b % 2 * a) (b % 2 * c) (product k (shifted a) (b / 2)) (product k (shifted c) (b / 2))

right_any : (k a b c : ℕ) → product k a (bit_xor b c) ≡ bit_xor (product k a b) (product k a c)
right_any zero a b c = refl
right_any (suc k) a b c =
    ap₂ bit_xor (ap (λ x. x * a) (xor_mod b c 1) ∙ xor_times (b % 2) (c % 2) a (mod-lt b (lit< tt)) (mod-lt c (lit< tt)))
    (ap (product k (shifted a)) (xor_shr b c 1) ∙ right_any k (shifted a) (b / 2) (c / 2))
    ∙ swap (b % 2 * a) (c % 2 * a) (product k (shifted a) (b / 2)) (product k (shifted a) (c / 2))

pub right : (a : ℕ) → Linear (times a)
right a b c hb hc = right_any 8 a b c

-- a test at each i below 8
octet : (f : ℕ → Bool) → T (sweep f 3 0) → (i : ℕ) → i < 8 → T (f i)
octet f t i h = swept f 3 0 t i (omega arith) (omega arith)

one_bit : (i : ℕ) → i < 8 → 2 ^ i < 256
one_bit i h = pow-lt h

abbrev commutes : ℕ → ℕ → Bool
commutes i j = times (2 ^ i) (2 ^ j) == times (2 ^ j) (2 ^ i)

pub times_comm : (a b : ℕ) → a < 256 → b < 256 → times a b ≡ times b a
times_comm a b ha hb =
    agree (λ x. times x b) (times b) (left 8 b) (right b)
    (λ i hi. agree (times (2 ^ i)) (λ y. times y (2 ^ i)) (right (2 ^ i)) (left 8 (2 ^ i))
    (λ j hj. eqb→eq _ _ (octet (commutes i) (octet (λ n. sweep (commutes n) 3 0) tt i hi) j hj)) b hb)
    a ha

abbrev associates : ℕ → ℕ → ℕ → Bool
associates i j k = times (times (2 ^ i) (2 ^ j)) (2 ^ k) == times (2 ^ i) (times (2 ^ j) (2 ^ k))

at_bits : (i j k : ℕ) → i < 8 → j < 8 → k < 8 → times (times (2 ^ i) (2 ^ j)) (2 ^ k) ≡ times (2 ^ i) (times (2 ^ j) (2 ^ k))
at_bits i j k hi hj hk =
    eqb→eq _ _ (octet (associates i j) (octet (λ m. sweep (associates i m) 3 0) (octet (λ n. sweep (λ m. sweep (associates n m) 3 0) 3 0) tt i hi) j hj) k hk)

-- times a (times x c), as x varies
inner : (a c : ℕ) → c < 256 → Linear (λ x. times a (times x c))
inner a c hc x y hx hy = ap (times a) (left 8 c x y hx hy) ∙ right a (times x c) (times y c) (product_lt 8 x c hx) (product_lt 8 y c hy)

pub times_assoc : (a b c : ℕ) → a < 256 → b < 256 → c < 256 → times (times a b) c ≡ times a (times b c)
times_assoc a b c ha hb hc =
    agree (λ x. times (times x b) c) (λ x. times x (times b c))
    (λ x y hx hy. ap (λ n. times n c) (left 8 b x y hx hy) ∙ left 8 c (times x b) (times y b) (product_lt 8 x b hx) (product_lt 8 y b hy))
    (left 8 (times b c))
    (λ i hi.
    let p = 2 ^ i in let hp : p < 256 = one_bit i hi in
    agree (λ x. times (times p x) c) (λ x. times p (times x c))
    (λ x y hx hy. ap (λ n. times n c) (right p x y hx hy) ∙ left 8 c (times p x) (times p y) (product_lt 8 p x hp) (product_lt 8 p y hp))
    (inner p c hc)
    (λ j hj.
    let q = 2 ^ j in let hq : q < 256 = one_bit j hj in
    agree (times (times p q)) (λ x. times p (times q x))
    (right (times p q))
    (λ x y hx hy. ap (times p) (right q x y hx hy) ∙ right p (times q x) (times q y) (product_lt 8 q x hq) (product_lt 8 q y hq))
    (λ k hk. at_bits i j k hi hj hk) c hc)
    b hb)
    a ha
