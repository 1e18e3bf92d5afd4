use Rattle.std.proofs.Common.{refl}
use Rattle.claim_file.specs.Grammar.{claim_said}
use Rattle.claim_file.proofs.Chains.{then_ok, then_err, whole_claim, whole_fault}
use Rattle.claim_file.proofs.read.Goals as goal

pub returns-in_err-field : goal.returns-in_err-field
unfolding claim_said
returns-in_err-field c =
    let words = c.new-words in
    whole_fault _ _ words.result words.ensures.kept words.ensures.all c.from_residual.ensures.1 (then_err _ _ c.in_err-field.ensures)

pub returns-in_err-matrix : goal.returns-in_err-matrix
unfolding claim_said
returns-in_err-matrix c =
    let words = c.new-words in
    whole_fault _ _ words.result words.ensures.kept words.ensures.all c.from_residual-in_err-matrix.ensures.1 (then_ok _ c.in_ok-field.ensures (then_err _ _ c.in_err-matrix.ensures))

pub returns-in_err-vector : goal.returns-in_err-vector
unfolding claim_said
returns-in_err-vector c =
    let words = c.new-words in
    whole_fault _ _ words.result words.ensures.kept words.ensures.all c.from_residual-in_err-vector.ensures.1 (then_ok _ c.in_ok-field.ensures (then_ok _ c.in_ok-matrix.ensures (then_err _ _ c.in_err-vector.ensures)))

pub returns-in_err-left : goal.returns-in_err-left
unfolding claim_said
returns-in_err-left c =
    let words = c.new-words in
    whole_fault _ _ words.result words.ensures.kept words.ensures.all c.from_residual-in_err-left.ensures.1 (then_ok _ c.in_ok-field.ensures (then_ok _ c.in_ok-matrix.ensures (then_ok _ c.in_ok-vector.ensures (then_err _ _ c.in_err-left.ensures))))

pub returns-in_err-right : goal.returns-in_err-right
unfolding claim_said
returns-in_err-right c =
    let words = c.new-words in
    whole_fault _ _ words.result words.ensures.kept words.ensures.all c.from_residual-in_err-right.ensures.1 (then_ok _ c.in_ok-field.ensures (then_ok _ c.in_ok-matrix.ensures (then_ok _ c.in_ok-vector.ensures (then_ok _ c.in_ok-left.ensures (then_err _ _ c.in_err-right.ensures)))))

pub returns-in_err-out : goal.returns-in_err-out
unfolding claim_said
returns-in_err-out c =
    let words = c.new-words in
    whole_fault _ _ words.result words.ensures.kept words.ensures.all c.from_residual-in_err-out.ensures.1 (then_ok _ c.in_ok-field.ensures (then_ok _ c.in_ok-matrix.ensures (then_ok _ c.in_ok-vector.ensures (then_ok _ c.in_ok-left.ensures (then_ok _ c.in_ok-right.ensures (then_err _ _ c.in_err-out.ensures))))))

pub returns : goal.returns
unfolding claim_said
returns c =
    let words = c.new-words in
    whole_claim _ words.result words.ensures.kept words.ensures.all (then_ok _ c.in_ok-field.ensures (then_ok _ c.in_ok-matrix.ensures (then_ok _ c.in_ok-vector.ensures (then_ok _ c.in_ok-left.ensures (then_ok _ c.in_ok-right.ensures (then_ok _ c.in_ok-out.ensures (record { says = refl })))))))
