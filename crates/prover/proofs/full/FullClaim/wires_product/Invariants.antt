use Rattle.std.proofs.Common.{◌≡◌, ◌+◌, map}
use Rattle.algebra.specs.Sums.{sum}
use Rattle.algebra.specs.Polynomials.{coeff}
use Rattle.algebra.specs.Relation.{wires}
use Rattle.prover.specs.Claims.{claim_of}
use Rattle.prover.proofs.full.FullClaim.wires_product.Given as goal

abbrev pub invariant-loop-j : goal.invariant-loop-j
invariant-loop-j g l =
    let f = g.F.Field in
    record {
      means : f.mean l.sum ≡ sum f.ops l.j (λ j. f.ops.mul (coeff f.ops (map f.mean l.list) j) (wires f.ops (claim_of f.mean l.self.claim) (l.from + j)));
      tidy : f.reduced l.sum;
    }
