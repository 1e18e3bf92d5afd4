use Rattle.std.proofs.Common.{◌≡◌, suc, ◌+◌, ◌-◌, ◌*◌, ◌/◌, ◌%◌, sym, ap, ◌∙◌, mod-lt, arith, lit<}
use lib.Bits.{bit_xor, xor_zero_r, xor_assoc}
use Rattle.gf256.specs.Gf256.{product}
use Rattle.gf256.specs.Times.{bit_lt}
use Rattle.gf256.proofs.product.Goals as goal

pub loop-i-preserved : goal.loop-i-preserved
loop-i-preserved c =
    let i = c.loop-i._i in
    let a = c.loop-i.a in
    let b = c.loop-i.b in
    let sum = bit_xor c.loop-i.sum (b % 2 * a) in
    let more : 8 - i ≡ suc (8 - (i + 1)) = omega arith in
    let was = ap (λ k. bit_xor c.loop-i.sum (product k a b)) (sym more) ∙ c.loop-i.invariant.1 in
    let again = ap (λ x. bit_xor sum (product (8 - (i + 1)) x (b / 2))) c.shift-a.ensures ∙ xor_assoc c.loop-i.sum (b % 2 * a) _ ∙ was in (
      omega arith,
      again,
      λ h. let none : 8 - (i + 1) ≡ 0 = omega arith in
          sym (xor_zero_r sum) ∙ ap (λ k. bit_xor sum (product k c.shift-a.result (b / 2))) (sym none) ∙ again,
    )
