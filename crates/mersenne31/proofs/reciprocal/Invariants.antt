use Rattle.std.proofs.Common.{◌≡◌, ◌*◌, ◌%◌, ◌<◌}
use Rattle.mersenne31.specs.Mersenne31.{p}
use Rattle.mersenne31.proofs.reciprocal.Given as goal

abbrev pub invariant-loop-left : goal.invariant-loop-left
invariant-loop-left l = (0 < l.left) × (l.left < p) × (l.factor < p) × ((l.a * l.factor) % p ≡ l.left)

abbrev pub decreases-loop-left : goal.decreases-loop-left
decreases-loop-left l = l.left
