use Rattle.claim_file.specs.Grammar.{keyword}
use Rattle.claim_file.proofs.Chains.{and_err, passed_on}
use Rattle.claim_file.proofs.words.Words.keyword.Goals as goal

pub returns-in_err-word : goal.returns-in_err-word
unfolding keyword
returns-in_err-word c = passed_on _ c.from_residual.ensures.1 (and_err _ _ c.in_err-word.ensures)

pub returns-then-is : goal.returns-then-is
unfolding keyword
returns-then-is c =
    let t = c.in_ok-word.ensures in
    record { tells = rw (t.tells, ← c.name.ensures, ← c.if-is.ensures); kept = t.kept }

pub returns-else-is : goal.returns-else-is
unfolding keyword
returns-else-is c =
    let t = c.in_ok-word.ensures in
    record { tells = rw (c.unexpected.ensures, t.tells, ← c.name.ensures, ← c.if-is.ensures); kept = t.kept }
