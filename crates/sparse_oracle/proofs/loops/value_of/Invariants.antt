use Rattle.std.proofs.Common.{◌≡◌, drop}
use Rattle.sparse_oracle.proofs.Walk.{walked}
use Rattle.sparse_oracle.proofs.loops.value_of.Given as goal

abbrev pub invariant-loop-term : goal.invariant-loop-term
invariant-loop-term g l =
    let f = g.F.Field in
    let x = f.mean l.x in
    (f.ops.add (f.mean l.sum) (walked f.ops f.mean x l.reached (f.mean l.raised) (drop l.term-index l.terms)) ≡ walked f.ops f.mean x 0 f.ops.one l.terms)
    × f.reduced l.sum
