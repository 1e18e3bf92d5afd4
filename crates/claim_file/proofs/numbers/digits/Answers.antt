use Rattle.std.proofs.Common.{sym, ap, ◌∙◌, arith, true-eqb, false-eqb}
use Rattle.std.proofs.lemmas.List.{nil_from_length}
use Rattle.claim_file.specs.Numbers.{capped, spelled}
use Rattle.claim_file.proofs.Numerals.{one_digit, no_digit, all_digits, spelled_some}
use Rattle.claim_file.proofs.numbers.digits.Goals as goal

pub returns-then-is_empty : goal.returns-then-is_empty
unfolding spelled
returns-then-is_empty c = rw (nil_from_length c.args.text.now (true-eqb _ 0 c.if-is_empty.ensures))

pub loop-b-init : goal.loop-b-init
loop-b-init c =
    let some = false-eqb _ 0 c.if-is_empty.ensures in
    (omega arith, sym (ap capped (spelled_some c.args.base c.args.text.now (omega arith))))

pub returns-in_err-digit : goal.returns-in_err-digit
returns-in_err-digit c =
    c.from_residual.ensures ∙ (no_digit c.args.base c.loop-b.value c.loop-b.b-index c.args.text.now (omega arith) c.in_err-digit.ensures ∙ c.loop-b.invariant.1)

pub loop-b-preserved : goal.loop-b-preserved
loop-b-preserved c =
    let more = one_digit c.args.base c.loop-b.value c.in_ok-digit.field-0 c.loop-b.b-index c.args.text.now (omega arith) (omega arith) c.in_ok-digit.ensures in
    (omega arith, rw (c.min-value.ensures, c.from.ensures, c.from-digit.ensures) (more ∙ c.loop-b.invariant.1))

pub returns : goal.returns
returns c = all_digits c.args.base c.loop-b.value c.loop-b.b-index c.args.text.now (omega arith) (omega arith) ∙ c.loop-b.invariant.1
