use Rattle.std.proofs.Common.{◌≡◌, ◌⊎◌, inl, inr, map, length, sym, ap, ◌∙◌}
use Rattle.std.proofs.lemmas.List.{length-map}
use Rattle.polynomial.proofs.Stretches.{inner_end}
use Rattle.polynomial.proofs.middle.inner_product.Goals as goal

pub returns-clause-means : goal.returns-clause-means
returns-clause-means g c =
    let f = g.F.Field in
    let xs = c.loop-x.x-iterator.a.rest.now in
    let ys = c.loop-x.x-iterator.b.rest.now in
    let short : (length (map f.mean xs) ≡ 0) ⊎ (length (map f.mean ys) ≡ 0) =
    elim c.in-None.ensures.steps [ inl h ↦ inl (length-map xs f.mean ∙ h.1.0) | inr h ↦ inr (length-map ys f.mean ∙ h.1.0) ] in
    sym (g.met.F.Field.lawful.add_nil (f.mean c.loop-x.sum))
    ∙ ap (f.ops.add (f.mean c.loop-x.sum)) (sym (inner_end f.ops g.met.F.Field.lawful (map f.mean xs) (map f.mean ys) short))
    ∙ c.loop-x.invariant.means
