use Rattle.std.proofs.Common.{◌∙◌, ap, ap₂}
use Rattle.prover.proofs.Parts.{row_parts}
use Rattle.prover.proofs.full.FullClaim.row_product.Goals as goal

pub returns : goal.returns
returns g c =
    let f = g.F.Field in
    let self = c.args.self.now in
    c.plus-3.ensures.means
    ∙ ap₂ f.ops.add (c.plus-2.ensures.means ∙ ap₂ f.ops.add (c.plus.ensures.means ∙ ap (f.ops.add (f.mean c.index-row-0.result)) c.inner_product-left.ensures.means) c.inner_product-right.ensures.means)
    c.inner_product-out.ensures.means
    ∙ row_parts f.ops g.met.F.Field.lawful f.mean self.claim c.args.i c.row-row.result.now c.index-row-0.result c.requires self.matrix_long self.left_long self.right_long self.out_long
    c.row-row.ensures c.index-row-0.is
