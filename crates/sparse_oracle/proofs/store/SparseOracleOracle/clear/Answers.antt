use Rattle.std.proofs.Common.{ℕ, ◌+◌, List, [], sym, ap, ◌∙◌, arith}
use Rattle.oracle.specs.Standing.{Standing, needed}
use Rattle.sparse_oracle.specs.Stands.{used}
use Rattle.sparse_oracle.specs.Terms.{coefficients_of, nonzero, spreads}
use Rattle.sparse_oracle.proofs.store.SparseOracleOracle.clear.Goals as goal

pub returns : goal.returns
returns g c =
    let f = g.F.Field in
    let s = c.args.self.now in
    let st : List (List f.K) → ℕ → Standing f.K = λ ls n. record { lists = ls; cells = n; rule = nonzero f.ops } in
    let n = c.count_terms.ensures.means ∙ ap (λ ts. nonzero f.ops (coefficients_of f.mean ts)) c.items.ensures ∙ sym (used s f.ops f.mean g.met.F.Field.lawful) in
    ap (λ ls. st ls (s.spare + c.count_terms.result + needed (nonzero f.ops) ls)) (ap (spreads f.ops f.mean) c.clear.ensures.empty) ∙ ap (st []) (omega (arith, n))
