use Rattle.std.proofs.Common.{◌-◌, ◌*◌, sym, ◌∙◌, arith}
use Rattle.algebra.proofs.Relation.{wires_left, wires_right, wires_out}
use Rattle.polynomial.proofs.Coefficients.{coeff_read}
use Rattle.prover.specs.Claims.{claim_of}
use Rattle.prover.proofs.full.FullClaim.wire.Goals as goal

pub returns-then-j-n : goal.returns-then-j-n
returns-then-j-n g c =
    let f = g.F.Field in
    let claim = c.args.self.now.claim in
    let i = c.args.j - 1 in
    coeff_read f.ops f.mean claim.wires.left.now i c.index-left-j.result (omega (arith, c.args.self.now.left_long)) c.index-left-j.is
    ∙ sym (wires_left f.ops (claim_of f.mean claim) c.args.j i (omega arith) (omega arith))

pub returns-then-j-n-2 : goal.returns-then-j-n-2
returns-then-j-n-2 g c =
    let f = g.F.Field in
    let claim = c.args.self.now.claim in
    let i = c.args.j - claim.statement.n - 1 in
    coeff_read f.ops f.mean claim.wires.right.now i c.index-right-j.result (omega (arith, c.args.self.now.right_long)) c.index-right-j.is
    ∙ sym (wires_right f.ops (claim_of f.mean claim) c.args.j i (omega arith) (omega arith))

pub returns-else-j-n-2 : goal.returns-else-j-n-2
returns-else-j-n-2 g c =
    let f = g.F.Field in
    let claim = c.args.self.now.claim in
    let i = c.args.j - 2 * claim.statement.n - 1 in
    coeff_read f.ops f.mean claim.wires.out.now i c.index-out-j.result (omega (arith, c.args.self.now.out_long)) c.index-out-j.is
    ∙ sym (wires_out f.ops (claim_of f.mean claim) c.args.j i (omega arith))
