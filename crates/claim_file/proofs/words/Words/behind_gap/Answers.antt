use Rattle.std.proofs.Common.{false, sym, refl, ap, ◌∙◌, length, arith, length-drop}
use Rattle.std.proofs.lemmas.List.{take_rest}
use Rattle.std.proofs.lemmas.Bool.Decides.{nat_tests}
use Rattle.claim_file.specs.Lexical.{bare, words_after}
use Rattle.claim_file.specs.State.{ahead}
use Rattle.claim_file.proofs.Lexing.{blank_step, comment_step, comment_line, gap_end}
use Rattle.claim_file.proofs.words.Words.behind_gap.Goals as goal
use Rattle.claim_file.proofs.words.Words.behind_gap.Goals.{in-Some+then-not-is_apart, in_default}

pub loop-b-init : goal.loop-b-init
unfolding ahead
loop-b-init c = record { counted = c.args.self.now.counted; same = refl }

pub loop-b-preserved-then-b-ne-COMMENT : goal.loop-b-preserved-then-b-ne-COMMENT
loop-b-preserved-then-b-ne-COMMENT c =
    let step = blank_step c.loop-b.line c.in-Some.field-0-0.now c.in-Some.after.now (sym (c.if-not-is_apart.ensures)) c.if-b-ne-COMMENT.true in
    let long = ap length c.in-Some.ensures.cases.0 in
    record {
      counted = grind (arith, nat_tests);
      same = rw (c.line_after-line.ensures, ← step, ← c.in-Some.ensures.cases.0) c.loop-b.invariant.same;
    }

pub loop-b-preserved-in-Some-split_first : goal.loop-b-preserved-in-Some-split_first
loop-b-preserved-in-Some-split_first c =
    let cut = take_rest c.in-Some.after.now c.comment_len.result in
    let behind = sym cut ∙ c.in-Some-split_first.ensures.cases.0 in
    let step = comment_line c.loop-b.line c.in-Some-split_first.field-0-0.now c.in-Some.after.now c.in-Some-split_first.behind.now (rw c.comment_len.ensures.first at behind) in
    let long = ap length c.in-Some.ensures.cases.0 in
    let short = ap length behind in
    record {
      counted = grind (arith, nat_tests, length-drop c.comment_len.result c.in-Some.after.now);
      same = rw (c.line_after-line-in-Some-split_first.ensures, ← step, ← c.if-b-ne-COMMENT.false, ← c.in-Some.ensures.cases.0) c.loop-b.invariant.same;
    }

pub loop-b-preserved : goal.loop-b-preserved
unfolding bare words_after
loop-b-preserved c =
    let step = comment_step c.loop-b.line c.in-Some.after.now in
    let none = rw (take_rest c.in-Some.after.now c.comment_len.result, c.comment_len.ensures.first) at c.in_default-split_first.ensures.cases in
    let long = ap length c.in-Some.ensures.cases.0 in
    record {
      counted = omega arith;
      same = sym (step ∙ gap_end false _ _ none) ∙ rw (c.in-Some.ensures.cases.0, c.if-b-ne-COMMENT.false) at c.loop-b.invariant.same;
    }

pub returns : goal.returns
unfolding ahead
returns c =
    elim c.match-split_first.branch [
      | in-Some+then-not-is_apart w ↦
          record {
            kept = refl;
            same = c.loop-b.invariant.same;
            word_next = λ h. rw w.in-Some.ensures.cases.0 (sym (w.if-not-is_apart.ensures));
          }
      | in_default w ↦
          let none = w.in_default.ensures.cases in
          record {
            kept = refl;
            same = c.loop-b.invariant.same;
            word_next = λ h. absurd (omega arith);
          }
    ]
