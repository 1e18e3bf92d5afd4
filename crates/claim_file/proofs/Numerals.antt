-- Numbers that are read with a cap.
use Rattle.std.proofs.Common.{◌≡◌, ℕ, ◌+◌, ◌*◌, ◌^◌, ◌<◌, ◌≤◌, min, List, [], ◌∷◌, length, get_or, drop, Some, None, Option, refl, ap, arith}
use Rattle.std.proofs.Math.Nat.{mul-le-mul_left}
use Rattle.std.proofs.lemmas.List.{drop_more, drop_all}
use Rattle.claim_file.specs.Numbers.{digit_value, with_digit, spelled_after, spelled, capped}

-- a digit more of two numbers with one cap
step : (base u v d : ℕ) → 1 ≤ base → min u (2 ^ 32) ≡ min v (2 ^ 32) → min (u * base + d) (2 ^ 32) ≡ min (v * base + d) (2 ^ 32)
step base u v d one e = grind (arith, mul-le-mul_left u one, mul-le-mul_left v one)

pub same_capped : (base u v : ℕ) (bs : List ℕ) → 1 ≤ base → min u (2 ^ 32) ≡ min v (2 ^ 32) → capped (spelled_after base u bs) ≡ capped (spelled_after base v bs)
unfolding spelled_after
same_capped base u v [] one e = ap Some e
same_capped base u v (b ∷ bs) one e =
    go (digit_value base b) (λ d. same_capped base (u * base + d) (v * base + d) bs one (step base u v d one e))
  where
    go : (o : Option ℕ) → ((d : ℕ) → capped (spelled_after base (u * base + d) bs) ≡ capped (spelled_after base (v * base + d) bs)) → capped (with_digit o (λ d. spelled_after base (u * base + d) bs)) ≡ capped (with_digit o (λ d. spelled_after base (v * base + d) bs))
    go None same = refl
    go (Some d) same = same d

-- one digit more
pub one_digit : (base v d i : ℕ) (text : List ℕ) → 1 ≤ base → i < length text → Some d ≡ digit_value base (get_or text i 0) → capped (spelled_after base (min (v * base + d) (2 ^ 32)) (drop (i + 1) text)) ≡ capped (spelled_after base v (drop i text))
unfolding spelled_after
one_digit base v d i text one within e =
    rw (drop_more text i 0 within, ← e) (same_capped base (min (v * base + d) (2 ^ 32)) (v * base + d) (drop (i + 1) text) one (omega arith))

pub no_digit : (base v i : ℕ) (text : List ℕ) → i < length text → None ≡ digit_value base (get_or text i 0) → None ≡ capped (spelled_after base v (drop i text))
unfolding spelled_after
no_digit base v i text within e = rw (drop_more text i 0 within, ← e)

-- all digits
pub all_digits : (base v i : ℕ) (text : List ℕ) → length text ≤ i → v ≤ 2 ^ 32 → Some v ≡ capped (spelled_after base v (drop i text))
unfolding spelled_after
all_digits base v i text done low =
    let whole : v ≡ min v (2 ^ 32) = omega arith in
    rw (drop_all i text done) (ap Some whole)

pub spelled_some : (base : ℕ) (bs : List ℕ) → 0 < length bs → spelled base bs ≡ spelled_after base 0 bs
unfolding spelled
spelled_some base [] h = absurd (omega arith)
spelled_some base (b ∷ bs) h = refl
