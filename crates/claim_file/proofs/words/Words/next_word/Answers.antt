use Rattle.std.proofs.Common.{false, refl, sym, ap, ◌∙◌, ◌+◌, length, arith}
use Rattle.claim_file.specs.State.{ahead}
use Rattle.claim_file.proofs.Lexing.{gap_end, word_longer, word_taken}
use Rattle.claim_file.proofs.words.Words.next_word.Goals as goal

pub returns-in_err-after : goal.returns-in_err-after
unfolding ahead
returns-in_err-after c =
    let gap = c.behind_gap-line.ensures in
    let none = gap_end false c.behind_gap-line.result.line c.behind_gap-line.result.rest.now c.in_err-after.ensures.cases in
    let all = sym gap.same ∙ none in
    rw (c.from_residual.ensures) (refl, all, all)

pub returns : goal.returns
unfolding ahead
returns c =
    let gap = c.behind_gap-line.ensures in
    let split = c.in_ok-after.ensures.cases.0 in
    let long = ap length split in
    let first = gap.word_next (omega arith) in
    let longer = word_longer c.word_len.result c.in_ok-after.field-0-0.now c.behind_gap-line.result.rest.now c.in_ok-after.after.now c.word_len.ensures.first split first in
    let word = word_taken c.behind_gap-line.result.line (1 + c.word_len.result) c.behind_gap-line.result.rest.now longer (omega arith) first in
    (refl, sym gap.same ∙ rw (c.split_at.ensures.front, c.split_at.ensures.back) word)
