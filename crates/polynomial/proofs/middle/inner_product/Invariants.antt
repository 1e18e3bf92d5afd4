use Rattle.std.proofs.Common.{◌≡◌, map}
use Rattle.polynomial.specs.Cells.{inner}
use Rattle.polynomial.proofs.middle.inner_product.Given as goal

-- the sum so far and that of the pairs that are still to come make the whole
abbrev pub invariant-loop-x : goal.invariant-loop-x
invariant-loop-x g l =
    let f = g.F.Field in
    record {
      means : f.ops.add (f.mean l.sum) (inner f.ops (map f.mean l.x-iterator.a.rest.now) (map f.mean l.x-iterator.b.rest.now))
          ≡ inner f.ops (map f.mean l.a) (map f.mean l.b);
      tidy : f.reduced l.sum;
    }
