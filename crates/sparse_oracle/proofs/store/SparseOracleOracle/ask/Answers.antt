use Rattle.std.proofs.Common.{Ok, sym, ap, ◌∙◌}
use Rattle.std.specs.Option.{option_copied}
use Rattle.oracle.proofs.Asked.{asked}
use Rattle.sparse_oracle.specs.Sparse.{sparse_stand}
use Rattle.sparse_oracle.specs.Stands.{listed_at}
use Rattle.sparse_oracle.proofs.store.SparseOracleOracle.ask.Goals as goal

pub returns-clause-answer : goal.returns-clause-answer
returns-clause-answer g c =
    let f = g.F.Field in
    let s = c.args.self.now in
    let p = listed_at s f.ops f.mean c.args.k c.in_ok-terms.terms.now (sym c.list.ensures ∙ ap option_copied c.in_ok-terms.ensures.ok_part) in
    ap Ok (c.value_of.ensures.means p.0 p.1) ∙ sym (asked f.ops (sparse_stand s f.ops f.mean) c.args.k (f.mean c.args.x) p.0 p.2)
