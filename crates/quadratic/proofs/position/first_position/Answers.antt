use Rattle.std.proofs.Common.{rules, tests, ℕ, eqb, sym, ◌∙◌}
use Rattle.std.proofs.lemmas.Iterator.{YieldsList-from_slice}
use Rattle.std.proofs.lemmas.Iterator.Search.{position_from_yields_List}
use Rattle.quadratic.proofs.Searches.{found_left, found_right, found_neither}
use Rattle.quadratic.proofs.position.first_position.Goals as goal

pub returns-in-Some : goal.returns-in-Some
returns-in-Some c =
    let pairs = c.args.pairs.now in
    let left = position_from_yields_List (λ (q : ℕ × ℕ). eqb c.args.i q.0) _ _ c.position.result c.position.ensures.ran (YieldsList-from_slice pairs cc) (λ x b q k. search (rules, tests)) in
    found_left pairs c.args.i c.in-Some.g (sym left ∙ c.in-Some.is)

pub returns-in_err-g : goal.returns-in_err-g
returns-in_err-g c =
    let pairs = c.args.pairs.now in
    let left = position_from_yields_List (λ (q : ℕ × ℕ). eqb c.args.i q.0) _ _ c.position.result c.position.ensures.ran (YieldsList-from_slice pairs cc) (λ x b q k. search (rules, tests)) in
    let right = position_from_yields_List (λ (q : ℕ × ℕ). eqb c.args.i q.1) _ _ c.position-2.result c.position-2.ensures.ran (YieldsList-from_slice pairs cc) (λ x b q k. search (rules, tests)) in
    c.from_residual.ensures ∙ found_neither pairs c.args.i (sym left ∙ c.in_default.is) (sym right ∙ c.in_err-g.was)

pub returns : goal.returns
returns c =
    let pairs = c.args.pairs.now in
    let left = position_from_yields_List (λ (q : ℕ × ℕ). eqb c.args.i q.0) _ _ c.position.result c.position.ensures.ran (YieldsList-from_slice pairs cc) (λ x b q k. search (rules, tests)) in
    let right = position_from_yields_List (λ (q : ℕ × ℕ). eqb c.args.i q.1) _ _ c.position-2.result c.position-2.ensures.ran (YieldsList-from_slice pairs cc) (λ x b q k. search (rules, tests)) in
    found_right pairs c.args.i c.in_ok-g.g (sym left ∙ c.in_default.is) (sym right ∙ c.in_ok-g.was)
