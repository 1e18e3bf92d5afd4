use Rattle.std.proofs.Common.{map, ◌∙◌, arith}
use Rattle.std.proofs.lemmas.List.{length-map}
use Rattle.polynomial.proofs.Stretches.{inner_sum}
use Rattle.quadratic.proofs.signed.Signed.linear.Goals as goal

pub returns : goal.returns
returns g c =
    let f = g.F.Field in
    let ws = c.args.weights.now in
    let xs = c.args.self.now.signature.now in
    c.inner_product.ensures.means
    ∙ inner_sum f.ops g.met.F.Field.lawful (map f.mean ws) (map f.mean xs) c.args.self.now.system.variables (omega (arith, length-map ws f.mean, length-map xs f.mean))
