use Rattle.std.proofs.Common.{◌≡◌, ◌+◌, ◌*◌, ◌<◌, ◌≤◌, length, ◌∙◌, arith}
use Rattle.polynomial.proofs.Fills.{filled_more, filled_all, all_tidy}
use Rattle.polynomial.proofs.Stretches.{middle_parts}
use Rattle.polynomial.proofs.middle.fill_middle.Goals as goal

pub loop-k-preserved : goal.loop-k-preserved
loop-k-preserved g c =
    let f = g.F.Field in
    let within : c.loop-k.k < length c.loop-k.out = omega arith in
    filled_more c.inner_product.result within c.loop-k.invariant
    (c.inner_product.ensures.means
    ∙ middle_parts f.ops g.met.F.Field.lawful f.mean c.args.d c.loop-k.k _ _ c.args.a.now c.args.b.now c.saturating_sub.ensures c.saturating_sub-in-loop-k.ensures
    c.requires.a_long c.requires.b_long (omega arith))
    c.inner_product.ensures.tidy

pub returns : goal.returns
returns g c =
    let long : length c.loop-k.out ≡ 2 * c.args.d + 1 = omega arith in
    let all : length c.loop-k.out ≤ c.loop-k.k = omega arith in
    record { means = filled_all (2 * c.args.d + 1) long (omega arith) c.loop-k.invariant; tidy = all_tidy all c.loop-k.invariant }
