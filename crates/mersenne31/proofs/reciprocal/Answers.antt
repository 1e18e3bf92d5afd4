use Rattle.std.proofs.Common.{◌*◌, ◌%◌, ap, ◌∙◌, mod-lt, arith}
use Rattle.mersenne31.specs.Mersenne31.{p}
use Rattle.mersenne31.specs.Inverse.{turned}
use Rattle.mersenne31.specs.Trial.{prime}
use Rattle.mersenne31.proofs.reciprocal.Goals as goal

pub loop-left-preserved : goal.loop-left-preserved
loop-left-preserved c =
    let a = c.args.a in
    let left = c.loop-left.left in
    let inv = c.loop-left.invariant in (
      prime left (omega arith) inv.1,
      omega (arith, mod-lt p inv.0),
      omega arith,
      ap (λ n. (a * n) % p) c.product-factor.ensures ∙ turned a c.loop-left.factor left inv.0 inv.1 inv.3,
    )
