use Rattle.std.proofs.Common.{rules, arith, tests, ◌*◌, ℕ, eqb, length, refl, sym, ◌∙◌}
use Rattle.std.specs.List.{range_with_len}
use Rattle.std.proofs.lemmas.Iterator.{YieldsList-from_range}
use Rattle.std.proofs.lemmas.Iterator.Adapters.{option_map_id}
use Rattle.std.proofs.lemmas.Iterator.Search.{find_from_yields_List}
use Rattle.std.proofs.lemmas.List.Folds.{find_at}
use Rattle.quadratic.specs.Positions.{first, unused}
use Rattle.quadratic.proofs.Searches.{slice_get-range}
use Rattle.quadratic.proofs.position.first_unused.Goals as goal

pub returns : goal.returns
returns c =
    let pairs = c.args.pairs.now in
    let v = c.args.variables in
    let test = λ (k : ℕ). eqb (first pairs k) (2 * length pairs) in
    sym (option_map_id c.find.result)
    ∙ find_from_yields_List test _ _ c.find.result c.find.ensures.ran (YieldsList-from_range 0 v v refl (omega arith))
    (λ x b q k. search (rules, tests))
    ∙ find_at test (range_with_len 0 v) ∙ slice_get-range v (unused v pairs)
