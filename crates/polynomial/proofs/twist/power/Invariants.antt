use Rattle.std.proofs.Common.{◌≡◌}
use Rattle.field.specs.Field.{power}
use Rattle.polynomial.proofs.twist.power.Given as goal

abbrev pub invariant-loop : goal.invariant-loop
invariant-loop g l =
    let f = g.F.Field in
    (f.mean l.product ≡ power f.ops (f.mean l.x) l.counter) × f.reduced l.product
