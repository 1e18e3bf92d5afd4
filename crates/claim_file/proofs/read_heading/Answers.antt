use Rattle.std.proofs.Common.{refl}
use Rattle.claim_file.specs.Grammar.{heading}
use Rattle.claim_file.proofs.Chains.{and_ok, and_err, passed_on}
use Rattle.claim_file.proofs.read_heading.Goals as goal

pub returns-in_err-keyword : goal.returns-in_err-keyword
unfolding heading
returns-in_err-keyword c = passed_on _ c.from_residual.ensures.1 (and_err _ _ c.in_err-keyword.ensures)

pub returns-in_err-field : goal.returns-in_err-field
unfolding heading
returns-in_err-field c =
    passed_on _ c.from_residual-in_err-field.ensures.1 (and_ok _ c.in_ok-keyword.ensures (and_err _ _ c.in_err-field.ensures))

pub returns-in_err-m : goal.returns-in_err-m
unfolding heading
returns-in_err-m c =
    passed_on _ c.from_residual-in_err-m.ensures.1 (and_ok _ c.in_ok-keyword.ensures (and_ok _ c.in_ok-field.ensures (and_err _ _ c.in_err-m.ensures)))

pub returns-in_err-n : goal.returns-in_err-n
unfolding heading
returns-in_err-n c =
    passed_on _ c.from_residual-in_err-n.ensures.1 (and_ok _ c.in_ok-keyword.ensures (and_ok _ c.in_ok-field.ensures (and_ok _ c.in_ok-m.ensures (and_err _ _ c.in_err-n.ensures))))

pub returns-in_err-keyword-2 : goal.returns-in_err-keyword-2
unfolding heading
returns-in_err-keyword-2 c =
    passed_on _ c.from_residual-in_err-keyword-2.ensures.1 (and_ok _ c.in_ok-keyword.ensures (and_ok _ c.in_ok-field.ensures (and_ok _ c.in_ok-m.ensures (and_ok _ c.in_ok-n.ensures (and_err _ _ c.in_err-keyword-2.ensures)))))

pub returns : goal.returns
unfolding heading
returns c =
    and_ok _ c.in_ok-keyword.ensures (and_ok _ c.in_ok-field.ensures (and_ok _ c.in_ok-m.ensures (and_ok _ c.in_ok-n.ensures (and_ok _ c.in_ok-keyword-2.ensures (record { tells = refl; kept = refl })))))
