use Rattle.claim_file.specs.Grammar.{number_after}
use Rattle.claim_file.proofs.Chains.{and_ok, and_err, passed_on, valued}
use Rattle.claim_file.proofs.words.Words.number_after.Goals as goal

pub returns-in_err-keyword : goal.returns-in_err-keyword
unfolding number_after
returns-in_err-keyword c = passed_on _ c.from_residual.ensures.1 (and_err _ _ c.in_err-keyword.ensures)

pub returns-in_err-due : goal.returns-in_err-due
unfolding number_after
returns-in_err-due c =
    passed_on _ c.from_residual-in_err-due.ensures.1 (and_ok _ c.in_ok-keyword.ensures (and_err _ _ c.in_err-due.ensures))

pub returns : goal.returns
unfolding number_after
returns c = and_ok _ c.in_ok-keyword.ensures (and_ok _ c.in_ok-due.ensures (valued _ c.value.result _ c.value.ensures))
