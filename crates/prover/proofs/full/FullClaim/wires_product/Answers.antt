use Rattle.std.proofs.Common.{◌+◌, map, ◌∙◌, ap₂, arith}
use Rattle.algebra.specs.Polynomials.{coeff}
use Rattle.algebra.specs.Relation.{wires}
use Rattle.algebra.proofs.Sums.{sum_more}
use Rattle.polynomial.proofs.Coefficients.{coeff_read}
use Rattle.prover.specs.Claims.{claim_of}
use Rattle.prover.proofs.full.FullClaim.wires_product.Goals as goal

pub loop-j-preserved : goal.loop-j-preserved
loop-j-preserved g c =
    let f = g.F.Field in
    let list = c.args.list.now in
    let j = c.loop-j.j in
    let w = wires f.ops (claim_of f.mean c.args.self.now.claim) in
    record {
      means = c.plus-sum.ensures.means
          ∙ sum_more f.ops g.met.F.Field.lawful j (λ k. f.ops.mul (coeff f.ops (map f.mean list) k) (w (c.args.from + k))) (f.mean c.loop-j.sum) (f.mean c.times.result)
          c.loop-j.invariant.means
          (c.times.ensures.means ∙ ap₂ f.ops.mul (coeff_read f.ops f.mean list j c.index-list-j.result (omega arith) c.index-list-j.is) c.wire.ensures);
      tidy = c.plus-sum.ensures.tidy;
    }
