use Rattle.std.proofs.Common.{◌≡◌, map, take}
use Rattle.sparse_oracle.specs.Terms.{nonzero}
use Rattle.sparse_oracle.proofs.loops.count_values.Given as goal

abbrev pub invariant-loop-x : goal.invariant-loop-x
invariant-loop-x g l =
    let f = g.F.Field in
    l.count ≡ nonzero f.ops (map f.mean (take l.x-index l.p))
