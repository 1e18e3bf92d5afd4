use Rattle.std.proofs.Common.{rules, tests, ℕ, not, ◌||◌, eqb, ap, ◌∙◌}
use Rattle.std.proofs.lemmas.Iterator.{YieldsList-from_slice}
use Rattle.std.proofs.lemmas.Iterator.Search.{any_from_yields_List}
use Rattle.quadratic.proofs.Searches.{unpaired}
use Rattle.quadratic.proofs.position.is_unused.Goals as goal

pub returns : goal.returns
returns c =
    let pairs = c.args.pairs.now in
    let i = c.args.i in
    let any = any_from_yields_List (λ (q : ℕ × ℕ). eqb i q.0 || eqb i q.1) _ _ c.any.result c.any.ensures.ran (YieldsList-from_slice pairs cc) (λ x b q k. search (rules, tests)) in
    ap not any ∙ unpaired pairs i
