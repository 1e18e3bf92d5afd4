use Rattle.std.proofs.Common.{ℕ, map, length, ap, ap₂, ◌∙◌}
use Rattle.std.proofs.lemmas.List.{length_push}
use Rattle.std.proofs.lemmas.Slice.Zip.{zip_turn}
use Rattle.algebra.specs.Polynomials.{coeff}
use Rattle.algebra.proofs.Sums.{sum_more}
use Rattle.polynomial.proofs.Coefficients.{coeff_read}
use Rattle.quadratic.specs.Systems.{product}
use Rattle.quadratic.proofs.signed.Signed.quadratic.Goals as goal

pub loop-weight-preserved : goal.loop-weight-preserved
loop-weight-preserved g c =
    let f = g.F.Field in
    let ws = c.args.weights.now in
    let pairs = c.args.self.now.system.pairs.now in
    let xs = map f.mean c.args.self.now.signature.now in
    let k = length c.loop-weight.yielded in
    let turn = zip_turn ws pairs c.loop-weight.yielded c.into_iter-weight-iterator.result c.loop-weight.weight-iterator c.next.new.self c.next.result (cc) (cc) c.loop-weight.yielded_by (c.in-Some.weight, c.in-Some.pair) c.in-Some.is c.next.ensures.steps in
    rw (length_push c.loop-weight.yielded (c.in-Some.weight, c.in-Some.pair))
    (c.plus-sum.ensures.means
    ∙ sum_more f.ops g.met.F.Field.lawful k (λ i. f.ops.mul (coeff f.ops (map f.mean ws) i) (product f.ops pairs xs i)) (f.mean c.loop-weight.sum) (f.mean c.times.result) c.loop-weight.invariant
    (c.times.ensures.means ∙ ap₂ f.ops.mul (coeff_read f.ops f.mean ws k c.in-Some.weight.now turn.0 (turn.2 c.in-Some.weight.now))
    (c.product.ensures ∙ ap (λ (q : ℕ × ℕ). f.ops.mul (coeff f.ops xs q.0) (coeff f.ops xs q.1)) (turn.3 (0, 0)))))
