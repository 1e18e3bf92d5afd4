use Rattle.std.proofs.Common.{◌≡◌, ◌-◌, ◌<◌, ◌≤◌}
use lib.Bits.{bit_xor}
use Rattle.gf256.specs.Gf256.{product, times}
use Rattle.gf256.proofs.product.Given as goal

-- the sum so far and the product that is left make the whole; at the end nothing is left
abbrev pub invariant-loop-i : goal.invariant-loop-i
invariant-loop-i l =
    (l.a < 256)
    × (bit_xor l.sum (product (8 - l._i) l.a l.b) ≡ times l.initial.a l.initial.b)
    × (8 ≤ l._i → l.sum ≡ times l.initial.a l.initial.b)
