use Rattle.std.proofs.Common.{◌<◌, sym, ap, ◌∙◌, ap₂, mod-eq_of_lt, rules}
use Rattle.gf256.specs.Gf256.{low, times}
use Rattle.gf256.proofs.Gf256Field.times.Goals as goal

pub returns : goal.returns
returns c =
    let a : c.args.self.0 < 256 = search rules in
    let b : c.args.other.0 < 256 = search rules in
    record { means = ap low (c.product.ensures ∙ ap₂ times (sym (mod-eq_of_lt a)) (sym (mod-eq_of_lt b))); tidy = search rules }
