use Rattle.std.proofs.Common.{[], ◌∷◌, ◌++◌, map, sym, ap, ◌∙◌, append_assoc}
use Rattle.algebra.proofs.Polynomials.{value_cons}
use Rattle.polynomial.proofs.value.value_at.Goals as goal

pub loop-c-preserved : goal.loop-c-preserved
loop-c-preserved g c =
    let f = g.F.Field in
    let x = f.mean c.args.x in
    let was = c.loop-c.invariant in
    let y = c.in-Some.c.now in
    record {
      rest = y ∷ was.rest;
      split = was.split ∙ ap (λ l. l ++ was.rest) c.in-Some.ensures.steps ∙ append_assoc c.next.new.self.iter.rest.now (y ∷ []) was.rest;
      means = c.plus-sum.ensures.means
          ∙ ap (f.ops.add (f.mean y)) (c.times.ensures.means ∙ ap (f.ops.mul x) was.means)
          ∙ sym (value_cons f.ops g.met.F.Field.lawful (f.mean y) (map f.mean was.rest) x);
      tidy = c.plus-sum.ensures.tidy;
    }
