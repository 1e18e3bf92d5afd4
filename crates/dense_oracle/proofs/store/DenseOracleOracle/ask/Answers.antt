use Rattle.std.proofs.Common.{Ok, ap, map, sym, ◌∙◌}
use Rattle.std.specs.Option.{option_copied}
use Rattle.oracle.proofs.Asked.{asked}
use Rattle.dense_oracle.specs.Dense.{dense_stand}
use Rattle.dense_oracle.specs.Stands.{held_at}
use Rattle.dense_oracle.proofs.store.DenseOracleOracle.ask.Goals as goal

pub returns-clause-answer : goal.returns-clause-answer
returns-clause-answer g c =
    let f = g.F.Field in
    let s = c.args.self.now in
    let p = c.in_ok-p.p.now in
    let stands = held_at s f.mean c.args.k p (sym c.list.ensures ∙ ap option_copied c.in_ok-p.ensures.ok_part) in
    ap Ok c.value_at.ensures.means ∙ sym (asked f.ops (dense_stand s f.mean) c.args.k (f.mean c.args.x) (map f.mean p) stands)
