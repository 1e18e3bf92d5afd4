use Rattle.std.proofs.Common.{◌≡◌, List, ◌++◌, map}
use Rattle.algebra.specs.Polynomials.{value}
use Rattle.polynomial.proofs.value.value_at.Given as goal

-- behind the coefficients that are still to come stand those whose value is the sum
abbrev pub invariant-loop-c : goal.invariant-loop-c
invariant-loop-c g l =
    let f = g.F.Field in
    record {
      rest : List _;
      split : l.p ≡ l.c-iterator.iter.rest.now ++ rest;
      means : f.mean l.sum ≡ value f.ops (map f.mean rest) (f.mean l.x);
      tidy : f.reduced l.sum;
    }
