use Rattle.std.proofs.Common.{rules, ℕ, map, ap, arith}
use Rattle.std.proofs.lemmas.Iterator.{YieldsList-from_slice, YieldsList-from_map_by}
use Rattle.algebra.specs.Polynomials.{coeff}
use Rattle.quadratic.specs.Systems.{product}
use Rattle.quadratic.proofs.Lists.{list_from_collect}
use Rattle.quadratic.proofs.signed.Signed.products.Goals as goal

pub returns : goal.returns
returns g c =
    let f = g.F.Field in
    let pairs = c.args.self.now.system.pairs.now in
    let signature = map f.mean c.args.self.now.signature.now in
    let read = λ (q : ℕ × ℕ). f.ops.mul (coeff f.ops signature q.0) (coeff f.ops signature q.1) in
    list_from_collect read (product f.ops pairs signature) 0 pairs (0, 0) c.collect.result c.collect.ensures.ran
    (YieldsList-from_map_by _ f.mean read (YieldsList-from_slice pairs cc) c.map.ensures.closure (λ x r q k. search rules))
    (λ k j h e. ap (product f.ops pairs signature) (omega arith))
