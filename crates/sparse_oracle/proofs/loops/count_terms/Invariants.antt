use Rattle.std.proofs.Common.{◌≡◌, take}
use Rattle.sparse_oracle.specs.Terms.{coefficients_of, nonzero}
use Rattle.sparse_oracle.proofs.loops.count_terms.Given as goal

abbrev pub invariant-loop-term : goal.invariant-loop-term
invariant-loop-term g l =
    let f = g.F.Field in
    l.count ≡ nonzero f.ops (coefficients_of f.mean (take l.term-index l.terms))
