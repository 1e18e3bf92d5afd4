use Rattle.std.proofs.Common.{◌*◌, ◌<◌, length, ◌∙◌, refl, arith}
use Rattle.algebra.specs.Relation.{wires}
use Rattle.polynomial.proofs.Fills.{filled_more}
use Rattle.prover.specs.Claims.{claim_of}
use Rattle.prover.proofs.Parts.{product_is}
use Rattle.prover.proofs.full.FullClaim.fill_h1.Goals as goal

pub loop-k-preserved : goal.loop-k-preserved
loop-k-preserved g c =
    let f = g.F.Field in
    let within : c.loop-k.k < length c.loop-k.h1 = omega arith in
    filled_more c.wires_product.result within c.loop-k.invariant
    (c.wires_product.ensures.means
    ∙ product_is f.ops g.met.F.Field.lawful f.mean (3 * c.args.self.now.claim.statement.n) c.loop-k.k _ _ _ c.args.r.now _ (wires f.ops (claim_of f.mean c.args.self.now.claim))
    c.saturating_sub-in-loop-k.ensures c.saturating_sub.ensures c.min.ensures c.requires.r_long (omega (arith, c.requires.h1_long)) refl)
    c.wires_product.ensures.tidy
