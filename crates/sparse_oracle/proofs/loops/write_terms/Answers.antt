use Rattle.std.proofs.Common.{sym, ap, ap₂, ◌∙◌}
use Rattle.oracle.specs.Store.{extended, lists_of, room_of, takes}
use Rattle.sparse_oracle.proofs.Writes.{pushed, skipped, takes_one}
use Rattle.sparse_oracle.proofs.loops.write_terms.Goals as goal
use Rattle.sparse_oracle.proofs.loops.write_terms.Goals.{then-not-is_zero+else-prove-2, else-not-is_zero}

pub prove-unreachable-requires-then-not-is_zero : goal.prove-unreachable-requires-then-not-is_zero
prove-unreachable-requires-then-not-is_zero g c =
    let f = g.F.Field in
    let other = sym c.is_zero.ensures ∙ c.if-not-is_zero.true in
    let fits = takes_one f.ops f.mean (lists_of c.args.store.now) c.args.p.now c.loop-i.i c.index-p-i.result c.loop-i-test.true c.index-p-i.is other _ c.requires.room in
    let same = ap₂ takes c.loop-i.invariant.0 c.loop-i.invariant.1 in
    cc

pub loop-i-preserved : goal.loop-i-preserved
loop-i-preserved g c =
    let f = g.F.Field in
    let ps = lists_of c.args.store.now in
    let i = c.loop-i.i in
    let x = c.index-p-i.result in
    elim c.if-not-is_zero.branch [
      | then-not-is_zero+else-prove-2 w ↦ (
        ap lists_of w.store-is
            ∙ w.if-prove-2.ensures.lists
            ∙ ap₂ extended c.loop-i.invariant.0 w.new.ensures
            ∙ pushed f.ops f.mean ps c.args.p.now i x c.loop-i-test.true c.index-p-i.is (sym c.is_zero.ensures ∙ w.if-not-is_zero.true),
        ap room_of w.store-is ∙ w.push-pushed.ensures.room ∙ c.loop-i.invariant.1,
      )
      | else-not-is_zero w ↦ (
        ap lists_of w.store-is
            ∙ c.loop-i.invariant.0
            ∙ skipped f.ops f.mean ps c.args.p.now i x c.loop-i-test.true c.index-p-i.is (sym c.is_zero.ensures ∙ w.if-not-is_zero.false),
        ap room_of w.store-is ∙ c.loop-i.invariant.1,
      )
    ]
