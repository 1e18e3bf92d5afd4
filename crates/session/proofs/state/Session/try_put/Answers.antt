use Rattle.std.proofs.Common.{ℕ, ◌+◌, ◌<◌, ◌≤◌, map, length, Err, sym, ap, ◌∙◌, arith}
use Rattle.std.proofs.lemmas.List.{length-map}
use Rattle.std.proofs.lemmas.Result.{err_from_is_err_and}
use Rattle.oracle.specs.Faults as oracle
use Rattle.oracle.specs.Standing.{Standing, answer_by, after_by}
use Rattle.ledger.specs.Faults.{told, told_answer}
use Rattle.ledger.specs.Ledger.{puts, allowed}
use Rattle.ledger.specs.States.{State, accepted}
use Rattle.session.specs.Sessions.{state_of}
use Rattle.session.proofs.Refusals.{put_many, put_refused, put_accepted}
use Rattle.session.proofs.state.Session.try_put.Goals as goal

-- the state s over an oracle that stands otherwise, at a turn
abbrev over : {K : Type 0} → State K → ℕ → Standing K → State K
over s t o = record { oracle = o; turn = t; m = s.m; n = s.n; alpha = s.alpha; beta = s.beta; z = s.z; verdict = s.verdict; count = s.count }

pub returns-then-p-limit : goal.returns-then-p-limit
returns-then-p-limit g c =
    let f = g.O.Elem.Field in
    let s : State f.K = state_of g.O.Oracle f c.args.self.now in
    let p = map f.mean c.args.p.now in
    let long : allowed s.turn s.m s.n < length p = omega (arith, length-map c.args.p.now f.mean, c.limit.ensures, c.if-p-limit.true) in
    let fits = put_many s.oracle (allowed s.turn s.m s.n) p long in
    record { answer = ap answer_by (sym fits); after = ap (λ o. after_by o s (accepted f.ops s (puts p))) (sym fits) }

pub returns-in_err-fix : goal.returns-in_err-fix
returns-in_err-fix g c =
    let f = g.O.Elem.Field in
    let s : State f.K = state_of g.O.Oracle f c.args.self.now in
    let p = map f.mean c.args.p.now in
    let short : length p ≤ allowed s.turn s.m s.n = omega (arith, length-map c.args.p.now f.mean, c.limit.ensures, c.if-p-limit.false) in
    let put = put_refused s.oracle (allowed s.turn s.m s.n) p (g.O.Oracle.stand c.fix.new.self f) short c.fix.ensures.after (oracle.told c.in_err-fix.field-0.0) c.in_err-fix.ensures.answer in
    let out = err_from_is_err_and c.from_residual.result c.from_residual.ensures.1 in
    record {
      answer = ap told_answer out.1 ∙ ap (λ x. Err (told x)) out.2 ∙ ap answer_by (sym put.fits);
      after = ap (over s s.turn) put.stands ∙ ap (λ o. after_by o s (accepted f.ops s (puts p))) (sym put.fits);
    }

pub returns : goal.returns
returns g c =
    let f = g.O.Elem.Field in
    let s : State f.K = state_of g.O.Oracle f c.args.self.now in
    let p = map f.mean c.args.p.now in
    let short : length p ≤ allowed s.turn s.m s.n = omega (arith, length-map c.args.p.now f.mean, c.limit.ensures, c.if-p-limit.false) in
    let put = put_accepted s.oracle (allowed s.turn s.m s.n) p (g.O.Oracle.stand c.fix.new.self f) short c.fix.ensures.after c.in_ok-fix.field-0 c.in_ok-fix.ensures.answer in
    record {
      answer = ap answer_by (sym put.fits);
      after = ap (over s (s.turn + 1)) put.stands ∙ ap (λ o. after_by o s (accepted f.ops s (puts p))) (sym put.fits);
    }
