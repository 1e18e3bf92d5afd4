use Rattle.std.proofs.Common.{◌-◌, ◌++◌, take, replicate, vec_items, ◌∙◌, ap₂}
use Rattle.quadratic.proofs.Lists.{filled_up}
use Rattle.quadratic.proofs.vector.fill_vector.Goals as goal

pub returns : goal.returns
returns g c =
    let f = g.F.Field in
    let made = c.in_ok-vector.ensures in
    filled_up f.mean c.args.digest.now (vec_items c.resize.new.self) c.args.rows c.zero.result f.ops.nil c.requires c.zero.ensures.means
    (c.in_ok-resize.ensures.items ∙ ap₂ (λ l k. take c.args.rows l ++ replicate (c.args.rows - k) c.zero.result) made.items made.len)
