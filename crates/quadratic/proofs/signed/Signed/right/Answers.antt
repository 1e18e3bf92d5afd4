use Rattle.std.proofs.Common.{rules, ℕ, map, length, sym, ap}
use Rattle.std.proofs.lemmas.Iterator.{YieldsList-from_slice, YieldsList-from_map_by}
use Rattle.algebra.specs.Polynomials.{coeff}
use Rattle.quadratic.specs.Encodings.{carried}
use Rattle.quadratic.proofs.Lists.{list_from_collect}
use Rattle.quadratic.proofs.Searches.{name_right}
use Rattle.quadratic.proofs.signed.Signed.right.Goals as goal

pub returns : goal.returns
returns g c =
    let f = g.F.Field in
    let pairs = c.args.self.now.system.pairs.now in
    let signature = map f.mean c.args.self.now.signature.now in
    let read = λ (q : ℕ × ℕ). coeff f.ops signature q.1 in
    list_from_collect read (carried f.ops pairs signature) (length pairs) pairs (0, 0) c.collect.result c.collect.ensures.ran
    (YieldsList-from_map_by _ f.mean read (YieldsList-from_slice pairs cc) c.map.ensures.closure (λ x r q k. search rules))
    (λ k j h e. ap (coeff f.ops signature) (sym (name_right pairs j k e h)))
