use Rattle.std.proofs.Common.{sym, ◌∙◌, arith}
use Rattle.algebra.proofs.Gap.{differ}
use Rattle.polynomial.proofs.twist.untwist.Goals as goal

pub unreachable-requires : goal.unreachable-requires
unreachable-requires g c =
    let f = g.F.Field in
    absurd (differ f.ops g.met.F.Field.lawful c.args.d c.args.k c.if-k-d.false (omega arith) (omega arith)
    (sym c.gap.ensures ∙ c.in-None.ensures.means))
