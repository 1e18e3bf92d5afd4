use Rattle.std.proofs.Common.{◌-◌, length, sym, ap, ◌∙◌}
use Rattle.dense_oracle.specs.Stands.{used}
use Rattle.dense_oracle.proofs.store.DenseOracleOracle.free.Goals as goal

pub returns : goal.returns
returns g c =
    let s = c.args.self.now in
    ap (λ n. s.cells - n) (ap length c.items.ensures ∙ sym (used s g.F.Field.mean))
