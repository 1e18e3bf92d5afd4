use Rattle.std.proofs.Common.{◌≡◌, ℕ, ◌+◌, ◌-◌, drop, sym, ap, ◌∙◌, ap₂}
use Rattle.std.proofs.lemmas.List.{at_drop_all}
use Rattle.field.specs.Field.{power}
use Rattle.field.proofs.Ring as R
use Rattle.sparse_oracle.proofs.Walk.{walked, walked_step, value_walked}
use Rattle.sparse_oracle.proofs.loops.value_of.Goals as goal

pub loop-term-init : goal.loop-term-init
loop-term-init g c =
    let f = g.F.Field in
    let all : f.K → f.K → f.K = λ s y. f.ops.add s (walked f.ops f.mean (f.mean c.args.x) 0 y c.args.terms.now) in
    (ap₂ all c.zero-sum.ensures.means c.one-raised.ensures.means ∙ R.nil_add f.ops g.met.F.Field.lawful _, c.zero-sum.ensures.tidy)

pub loop-term-preserved : goal.loop-term-preserved
loop-term-preserved g c =
    let f = g.F.Field in
    let ts = c.args.terms.now in
    let t = c.term-item.result in
    let e = c.degree-degree.result in
    let x = f.mean c.args.x in
    let sum = f.mean c.loop-term.sum in
    let raised = f.mean c.loop-term.raised in
    let up : ℕ → f.K = λ n. f.ops.mul raised (power f.ops x (n - c.loop-term.reached)) in
    let new : f.K → f.K = λ y. f.ops.mul (f.mean t.coefficient) y in
    let rest : ℕ → f.K → f.K = λ n y. walked f.ops f.mean x n y (drop (c.loop-term.term-index + 1) ts) in
    let raise : f.mean c.times-raised.result ≡ up e = c.times-raised.ensures.means ∙ ap (f.ops.mul raised) (c.power.ensures.means ∙ ap (power f.ops x) c.saturating_sub.ensures) in
    let more = c.plus-sum.ensures.means ∙ ap (f.ops.add sum) (c.times.ensures.means ∙ ap new raise) in
    let left = walked_step f.ops f.mean x c.loop-term.reached raised ts c.loop-term.term-index t c.loop-term-test.true c.term-item.is ∙ ap (λ n. f.ops.add (new (up n)) (rest n (up n))) (sym c.degree-degree.ensures) in (
      ap₂ f.ops.add more (ap (rest e) raise)
          ∙ g.met.F.Field.lawful.add_assoc sum (new (up e)) (rest e (up e))
          ∙ ap (f.ops.add sum) (sym left)
          ∙ c.loop-term.invariant.0,
      c.plus-sum.ensures.tidy,
    )

pub returns : goal.returns
returns g c =
    let f = g.F.Field in
    let laws = g.met.F.Field.lawful in
    let ts = c.args.terms.now in
    let x = f.mean c.args.x in
    let none = at_drop_all (walked f.ops f.mean x c.loop-term.reached (f.mean c.loop-term.raised)) ts c.loop-term.term-index c.loop-term-test.false in
    record {
      means = λ p s. sym (laws.add_nil (f.mean c.loop-term.sum)) ∙ ap (f.ops.add (f.mean c.loop-term.sum)) (sym none) ∙ c.loop-term.invariant.0 ∙ value_walked f.ops laws f.mean x ts p s;
      tidy = c.loop-term.invariant.1;
    }
