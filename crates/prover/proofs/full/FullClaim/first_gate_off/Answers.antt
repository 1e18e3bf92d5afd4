use Rattle.std.proofs.Common.{◌≡◌, ℕ, true, false, rules}
use Rattle.std.proofs.lemmas.Iterator.{first_from_Range}
use Rattle.algebra.specs.Polynomials.{coeff}
use Rattle.prover.specs.Claims.{claim_of}
use Rattle.prover.proofs.Errors.{first_off}
use Rattle.prover.proofs.full.FullClaim.first_gate_off.Goals as goal

pub returns : goal.returns
returns g c =
    let f = g.F.Field in
    let s = claim_of f.mean c.args.self.now.claim in
    let a = λ (k : ℕ). f.ops.mul (coeff f.ops s.left k) (coeff f.ops s.right k) in
    let b = coeff f.ops s.out in
    first_off f.ops g.met.F.Field.lawful a b s.n c.find.result
    (first_from_Range _ _ _ c.find.result (λ i. f.ops.same (a i) (b i) ≡ false) (λ i. f.ops.same (a i) (b i) ≡ true) c.find.ensures.ran (λ i q k. search rules) (λ i q k. search rules))
