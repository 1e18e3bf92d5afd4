use Rattle.std.proofs.Common.{◌≡◌, ℕ, ◌<◌, map, length, slice_set, sym, ap, ◌∙◌, ap₂, subst, le_refl, add-one, arith}
use native.Mathlib.Decide.{dec_lt}
use Rattle.field.specs.Field.{power}
use Rattle.field.proofs.Ring.{mul_nil}
use Rattle.algebra.specs.Polynomials.{coeff}
use Rattle.polynomial.proofs.Coefficients.{coeff_at, coeff_set, coeff_set_other, coeff_beyond}
use Rattle.prover.proofs.scale.scale.Goals as goal

pub loop-c-preserved : goal.loop-c-preserved
loop-c-preserved g c =
    let f = g.F.Field in
    let x = f.mean c.args.x in
    let was = coeff f.ops (map f.mean c.args.p.now) in
    let xs = c.loop-c.p in
    let k = c.loop-c.c-index in
    let y = c.times.result in
    let within : k < length xs = omega arith in
    let here : f.mean y ≡ f.ops.mul (power f.ops x k) (was k) =
    c.times.ensures.means
    ∙ ap₂ f.ops.mul c.loop-c.invariant.factor_is (coeff_at f.ops f.mean xs k c.c-item.result within ∙ c.loop-c.invariant.kept k (le_refl k)) in
    record {
      factor_is = c.times-factor.ensures.means ∙ ap (f.ops.mul x) c.loop-c.invariant.factor_is ∙ ap (power f.ops x) (sym (add-one k));
      done = λ i l. elim (dec_lt i k) [
        | yes b ↦ coeff_set_other f.ops f.mean xs k i y (λ e. omega arith) ∙ c.loop-c.invariant.done i b
        | no b ↦ let e : k ≡ i = omega arith in
            subst (λ (j : ℕ). coeff f.ops (map f.mean (slice_set xs k y)) j ≡ f.ops.mul (power f.ops x j) (was j)) e (coeff_set f.ops f.mean xs k y within ∙ here)
      ];
      kept = λ i l. coeff_set_other f.ops f.mean xs k i y (λ e. omega arith) ∙ c.loop-c.invariant.kept i (omega arith);
    }

pub returns : goal.returns
returns g c =
    let f = g.F.Field in
    let x = f.mean c.args.x in
    let was = coeff f.ops (map f.mean c.args.p.now) in
    λ i. elim (dec_lt i c.loop-c.c-index) [
      | yes l ↦ c.loop-c.invariant.done i l
      | no l ↦
          let none : was i ≡ f.ops.nil = coeff_beyond f.ops f.mean c.args.p.now i (omega arith) in
          c.loop-c.invariant.kept i (omega arith) ∙ none ∙ sym (ap (f.ops.mul (power f.ops x i)) none ∙ mul_nil f.ops g.met.F.Field.lawful (power f.ops x i))
    ]
