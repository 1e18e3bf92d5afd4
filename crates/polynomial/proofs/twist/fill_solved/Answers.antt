use Rattle.std.proofs.Common.{◌≡◌, ◌+◌, ◌*◌, ◌<◌, ◌≤◌, length, ap, ◌∙◌, le_refl, arith}
use Rattle.polynomial.specs.Twist.{untwisted}
use Rattle.polynomial.proofs.Coefficients.{coeff_at, coeff_set_other}
use Rattle.polynomial.proofs.Fills.{filled_more, filled_all, all_tidy}
use Rattle.polynomial.proofs.twist.fill_solved.Goals as goal

pub loop-k-preserved : goal.loop-k-preserved
loop-k-preserved g c =
    let f = g.F.Field in
    let xs = c.loop-k.cells in
    let k = c.loop-k.k in
    let within : k < length xs = omega arith in
    let read = coeff_at f.ops f.mean xs k c.index-cells-k.result within ∙ c.loop-k.invariant.1 k (le_refl k) in (
      filled_more c.untwist.result within c.loop-k.invariant.0
          (c.untwist.ensures.means ∙ ap (λ y. untwisted f.ops c.args.d (f.mean c.args.free) y k) read) c.untwist.ensures.tidy,
      λ i h. coeff_set_other f.ops f.mean xs k i c.untwist.result (λ e. omega arith) ∙ c.loop-k.invariant.1 i (omega arith),
    )

pub returns : goal.returns
returns g c =
    let long : length c.loop-k.cells ≡ 2 * c.args.d + 1 = omega arith in
    let all : length c.loop-k.cells ≤ c.loop-k.k = omega arith in
    record { means = filled_all (2 * c.args.d + 1) long (omega arith) c.loop-k.invariant.0; tidy = all_tidy all c.loop-k.invariant.0 }
