use Rattle.std.proofs.Common.{◌*◌, map, arith}
use Rattle.algebra.specs.Polynomials.{coeff}
use Rattle.algebra.specs.Relation.{wires}
use Rattle.prover.specs.Claims.{claim_of}
use Rattle.prover.proofs.Replies.{solution}
use Rattle.prover.proofs.full.FullClaim.write_h1.Goals as goal

pub returns : goal.returns
returns g c =
    let f = g.F.Field in
    let solved = rw c.unwrap.ensures at c.solve_twist.ensures in
    solution f.ops f.mean f.reduced (3 * c.args.self.now.claim.statement.n) (f.mean c.args.free) (coeff f.ops (map f.mean c.args.r.now)) (wires f.ops (claim_of f.mean c.args.self.now.claim))
    c.fill_h1.new.h1 c.solve_twist.new.cells (λ k l. c.fill_h1.ensures k (omega arith)) solved.1
