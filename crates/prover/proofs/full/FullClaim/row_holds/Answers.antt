use Rattle.std.proofs.Common.{◌∙◌, ap₂}
use Rattle.polynomial.proofs.Coefficients.{coeff_at}
use Rattle.prover.proofs.full.FullClaim.row_holds.Goals as goal

pub returns : goal.returns
returns g c =
    let f = g.F.Field in
    let self = c.args.self.now in
    c.same.ensures
    ∙ ap₂ f.ops.same (coeff_at f.ops f.mean self.claim.statement.vector.now c.args.i c.index-self-i.result c.requires.in_vector) c.row_product.ensures
