use Rattle.std.proofs.Common.{◌≡◌, true, false, rules}
use Rattle.std.proofs.lemmas.Iterator.{first_from_Range}
use Rattle.algebra.specs.Polynomials.{coeff}
use Rattle.algebra.specs.Relation.{row}
use Rattle.prover.specs.Claims.{claim_of}
use Rattle.prover.proofs.Errors.{first_off}
use Rattle.prover.proofs.full.FullClaim.first_row_off.Goals as goal

pub returns : goal.returns
returns g c =
    let f = g.F.Field in
    let s = claim_of f.mean c.args.self.now.claim in
    let a = coeff f.ops s.vector in
    let b = row f.ops s in
    first_off f.ops g.met.F.Field.lawful a b s.m c.find.result
    (first_from_Range _ _ _ c.find.result (λ i. f.ops.same (a i) (b i) ≡ false) (λ i. f.ops.same (a i) (b i) ≡ true) c.find.ensures.ran (λ i q k. search rules) (λ i q k. search rules))
