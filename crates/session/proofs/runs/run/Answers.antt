use Rattle.std.proofs.Common.{◌≡◌, ◌+◌, List, map, drop, sym, ap, ◌∙◌, subst}
use Rattle.oracle.specs.Standing.{Standing}
use Rattle.ledger.specs.Ledger.{Move, move_of}
use Rattle.ledger.specs.States.{State, fresh, ran}
use Rattle.ledger.specs.Law.{Law}
use Rattle.ledger.proofs.Laws.{law_of_runs}
use Rattle.session.specs.Sessions.{state_of}
use Rattle.session.proofs.Passes.{ran_next, ran_end}
use Rattle.session.proofs.runs.run.Goals as goal

pub loop-call-preserved : goal.loop-call-preserved
loop-call-preserved g c =
    let f = g.O.Elem.Field in
    let st : State f.K = state_of g.O.Oracle f c.loop-call.session in
    let cs = c.args.calls.now in
    ap (λ s. ran f.ops s (map (move_of f.mean) (drop (c.loop-call.call-index + 1) cs))) c.call.ensures.after ∙ ran_next f.ops f.mean cs st c.loop-call.call-index c.call-item.result c.loop-call-test.true c.call-item.is ∙ c.loop-call.invariant

pub returns : goal.returns
returns g c =
    let f = g.O.Elem.Field in
    let st : State f.K = state_of g.O.Oracle f c.loop-call.session in
    let base : Standing f.K = g.O.Oracle.stand c.args.oracle f in
    let cs = c.args.calls.now in
    let moves : List (Move f.K) = map (move_of f.mean) cs in
    let is : st ≡ ran f.ops (fresh f.ops base) moves =
    sym (ran_end f.ops f.mean cs st c.loop-call.call-index c.loop-call-test.false) ∙ c.loop-call.invariant ∙ ap (λ s. ran f.ops s moves) c.new-session.ensures in
    subst (λ (s : State f.K). Law f.ops base moves s) (sym is) (law_of_runs f.ops g.met.O.Elem.Field.lawful base moves)
