use Rattle.std.proofs.Common.{length, sym, ap₂, ◌∙◌}
use Rattle.oracle.specs.Admission.{refusal_of}
use Rattle.dense_oracle.specs.Stands.{fits_where_none}
use Rattle.dense_oracle.proofs.store.DenseOracleOracle.fix.Goals as goal

pub prove-unreachable-requires : goal.prove-unreachable-requires
prove-unreachable-requires g c =
    let n = length c.args.p.now in
    let none = ap₂ (λ l r. refusal_of l n n r) (sym c.standing.ensures) (sym c.free.ensures) ∙ c.in_ok-admit.ensures in
    let fits = fits_where_none c.args.self.now g.F.Field.mean n none in
    cc
