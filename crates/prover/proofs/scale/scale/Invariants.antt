use Rattle.std.proofs.Common.{◌≡◌, ℕ, ◌<◌, ◌≤◌, map}
use Rattle.field.specs.Field.{power}
use Rattle.algebra.specs.Polynomials.{coeff}
use Rattle.prover.proofs.scale.scale.Given as goal

abbrev pub invariant-loop-c : goal.invariant-loop-c
invariant-loop-c g l =
    let f = g.F.Field in
    let was = coeff f.ops (map f.mean l.initial.p) in
    record {
      factor_is : f.mean l.factor ≡ power f.ops (f.mean l.x) l.c-index;
      done : (i : ℕ) → i < l.c-index → coeff f.ops (map f.mean l.p) i ≡ f.ops.mul (power f.ops (f.mean l.x) i) (was i);
      kept : (i : ℕ) → l.c-index ≤ i → coeff f.ops (map f.mean l.p) i ≡ was i;
    }
