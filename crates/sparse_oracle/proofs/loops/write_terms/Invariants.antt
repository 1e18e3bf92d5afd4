use Rattle.std.proofs.Common.{◌≡◌}
use Rattle.oracle.specs.Store.{lists_of, room_of}
use Rattle.sparse_oracle.proofs.Writes.{so_far}
use Rattle.sparse_oracle.proofs.loops.write_terms.Given as goal

abbrev pub invariant-loop-i : goal.invariant-loop-i
invariant-loop-i g l =
    let f = g.F.Field in
    (lists_of l.store ≡ so_far f.ops f.mean (lists_of l.fn.store) l.p l.i) × (room_of l.store ≡ room_of l.fn.store)
