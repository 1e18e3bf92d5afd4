use Rattle.std.proofs.Common.{◌≡◌, map, drop}
use Rattle.ledger.specs.Ledger.{move_of}
use Rattle.ledger.specs.States.{ran}
use Rattle.session.specs.Sessions.{state_of}
use Rattle.session.proofs.runs.run.Given as goal

abbrev pub invariant-loop-call : goal.invariant-loop-call
invariant-loop-call g l =
    let f = g.O.Elem.Field in
    ran f.ops (state_of g.O.Oracle f l.session) (map (move_of f.mean) (drop l.call-index l.calls))
    ≡ ran f.ops (state_of g.O.Oracle f l.initial.session) (map (move_of f.mean) l.calls)
