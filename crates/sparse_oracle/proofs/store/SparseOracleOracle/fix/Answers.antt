use Rattle.std.proofs.Common.{ℕ, ◌+◌, ◌-◌, List, [], ◌∷◌, ◌++◌, map, sym, ap, ◌∙◌, arith}
use Rattle.oracle.specs.Store.{lists_of}
use Rattle.oracle.specs.Standing.{Standing, after_by, appended, needed}
use Rattle.sparse_oracle.specs.Sparse.{listed, sparse_stand}
use Rattle.sparse_oracle.specs.Stands.{cells_kept, climb_more, listed_more, roomy, stored_more, unrefused}
use Rattle.sparse_oracle.specs.Terms.{nonzero}
use Rattle.sparse_oracle.proofs.store.SparseOracleOracle.fix.Goals as goal

pub write_terms-requires-clause-room : goal.write_terms-requires-clause-room
write_terms-requires-clause-room g c =
    let f = g.F.Field in
    let s = c.args.self.now in
    let p = c.args.p.now in
    (roomy s f.ops f.mean p (unrefused s f.ops f.mean p _ _ _ c.standing.ensures c.count_values-needed.ensures.means c.free.ensures c.in_ok-admit.ensures)).room

pub invariant_of-self : goal.invariant_of-self
invariant_of-self g c =
    let f = g.F.Field in
    let s = c.args.self.now in
    let p = c.args.p.now in
    let r = roomy s f.ops f.mean p (unrefused s f.ops f.mean p _ _ _ c.standing.ensures c.count_values-needed.ensures.means c.free.ensures c.in_ok-admit.ensures) in
    let ps = lists_of c.write_terms.new.store in
    let more = stored_more s f.ops f.mean p ps c.write_terms.ensures.lists in
    record {
      small = omega (arith, s.small, r.spare, more, c.count_values-needed.ensures.means);
      stocked = omega (arith, s.stocked, r.spare, more, c.count_values-needed.ensures.means, c.write_terms.ensures.same_room);
      climb = climb_more s f.ops f.mean p ps c.write_terms.ensures.lists;
    }

pub returns-clause-after : goal.returns-clause-after
returns-clause-after g c =
    let f = g.F.Field in
    let s = c.args.self.now in
    let p = c.args.p.now in
    let rule : List f.K → ℕ = nonzero f.ops in
    let st : List (List f.K) → ℕ → Standing f.K = λ ls n. record { lists = ls; cells = n; rule = rule } in
    let stand = sparse_stand s f.ops f.mean in
    let none = unrefused s f.ops f.mean p _ _ _ c.standing.ensures c.count_values-needed.ensures.means c.free.ensures c.in_ok-admit.ensures in
    let r = roomy s f.ops f.mean p none in
    let more = listed s f.ops f.mean ++ (map f.mean p ∷ []) in
    let kept = cells_kept s f.ops f.mean p (lists_of c.write_terms.new.store) c.write_terms.ensures.lists r.spare in
    ap (λ ls. st ls (s.spare - c.count_values-needed.result + needed rule ls)) (listed_more s f.ops f.mean p (lists_of c.write_terms.new.store) c.write_terms.ensures.lists g.met.F.Field.lawful)
    ∙ ap (st more) (ap (λ n. s.spare - n + needed rule more) c.count_values-needed.ensures.means ∙ kept)
    ∙ sym (ap (λ o. after_by o stand (appended stand (map f.mean p))) none)
