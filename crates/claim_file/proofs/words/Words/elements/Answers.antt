use Rattle.std.proofs.Common.{vec_items, sym, ◌∙◌}
use Rattle.claim_file.specs.Grammar.{order}
use Rattle.claim_file.specs.Lexical.{last_line}
use Rattle.claim_file.specs.State.{text_of}
use Rattle.claim_file.proofs.Chains.{passed_on, numbers_end, numbers_bad, numbers_more, numbers_unfinished, numbers_all, refused_by}
use Rattle.claim_file.proofs.words.Words.elements.Goals as goal

pub returns-then-ends : goal.returns-then-ends
returns-then-ends c =
    let t = c.in-Some.ensures in
    record {
      tells = sym c.loop-word.invariant.said ∙ numbers_end _ _ c.args.end _ _ _ _ t.1 c.if-ends.ensures;
      kept = t.0 ∙ c.loop-word.invariant.kept;
    }

pub returns-in_err-value : goal.returns-in_err-value
returns-in_err-value c =
    let t = c.in-Some.ensures in
    let bad = rw (c.from-bound.ensures, c.order.ensures) at c.in_err-value.ensures in
    passed_on _ c.from_residual.ensures.1 (record {
      tells = refused_by c.in_err-value.field-0.0 _ (sym c.loop-word.invariant.said ∙ numbers_bad _ _ c.args.end _ _ _ _ _ t.1 c.if-ends.ensures bad);
      kept = t.0 ∙ c.loop-word.invariant.kept;
    })

pub loop-word-preserved : goal.loop-word-preserved
loop-word-preserved c =
    let t = c.in-Some.ensures in
    let last = last_line 1 (text_of c.args.self.now) in
    let value = rw (c.from-bound.ensures, c.order.ensures) at c.in_ok-value.ensures in
    let more = numbers_more last (order c.args.field) c.args.end (vec_items c.loop-word.list) _ _ _ _ t.1 c.if-ends.ensures value in
    record {
      kept = t.0 ∙ c.loop-word.invariant.kept;
      said = rw c.in_ok-push.ensures.items (more ∙ c.loop-word.invariant.said);
    }

pub returns-in-Some-end : goal.returns-in-Some-end
returns-in-Some-end c =
    let t = c.in_default.ensures in
    let kept = t.0 ∙ c.loop-word.invariant.kept in
    record {
      tells = rw (c.unfinished.ensures, kept) (sym c.loop-word.invariant.said ∙ rw c.in-Some-end.is (numbers_unfinished _ _ _ _ _ t.1));
      kept = kept;
    }

pub returns-in-None : goal.returns-in-None
returns-in-None c =
    let t = c.in_default.ensures in
    record {
      tells = sym c.loop-word.invariant.said ∙ rw (c.in-None.is, t.2) (numbers_all (order c.args.field) _ _ t.1);
      kept = t.0 ∙ c.loop-word.invariant.kept;
    }
