use Rattle.std.proofs.Common.{◌*◌, map}
use Rattle.algebra.specs.Polynomials.{coeff, middle}
use Rattle.algebra.specs.Relation.{wires}
use Rattle.polynomial.proofs.Fills.{Filled}
use Rattle.prover.specs.Claims.{claim_of}
use Rattle.prover.proofs.full.FullClaim.fill_h1.Given as goal

abbrev pub invariant-loop-k : goal.invariant-loop-k
invariant-loop-k g l =
    let f = g.F.Field in
    Filled f.ops f.mean f.reduced (middle f.ops (3 * l.self.claim.statement.n) (coeff f.ops (map f.mean l.r)) (wires f.ops (claim_of f.mean l.self.claim))) l.h1 l.k
