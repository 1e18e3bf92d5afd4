use Rattle.std.proofs.Common.{◌≡◌, ◌+◌, arith, length-set}
use Rattle.std.proofs.lemmas.Bool.Decides.{nat_tests}
use Rattle.oracle.specs.Tables.{entry_of}
use Rattle.oracle.proofs.StoreLemmas.{takes_is, chain_grown, lists_grown}
use Rattle.oracle.proofs.store.Store.push.Goals as goal
use Rattle.oracle.proofs.store.Store.push.Goals.{then-count-ge-MOST_COEFFICIENTS-via-then-count-ge-MOST_COEFFICIENTS, then-count-ge-MOST_COEFFICIENTS-via-else-count-ge-MOST_COEFFICIENTS+then-len-self}

pub returns-then-count-ge-MOST_COEFFICIENTS-clause-answer : goal.returns-then-count-ge-MOST_COEFFICIENTS-clause-answer
returns-then-count-ge-MOST_COEFFICIENTS-clause-answer g c =
    let s = c.args.self.now in
    let is : c.in-Some.last + 1 ≡ s.table.len = grind (arith, nat_tests) in
    let fits = takes_is s c.in-Some.last (entry_of 0 0 0) is in
    elim c.then-count-ge-MOST_COEFFICIENTS.branch [
      | then-count-ge-MOST_COEFFICIENTS-via-then-count-ge-MOST_COEFFICIENTS w ↦ grind (arith, nat_tests, fits)
      | then-count-ge-MOST_COEFFICIENTS-via-else-count-ge-MOST_COEFFICIENTS+then-len-self w ↦ grind (arith, nat_tests, fits)
    ]

pub invariant_of-self : goal.invariant_of-self
invariant_of-self g c =
    let s = c.args.self.now in
    let is : c.in-Some.last + 1 ≡ s.table.len = grind (arith, nat_tests) in
    let chain = chain_grown s c.in-Some.last (entry_of 0 0 0) is c.args.item _ c.set.ensures _ c.if-count-ge-MOST_COEFFICIENTS.false c.push_reserved.ensures.len in
    record {
      stocked = omega (arith, s.stocked, c.push_reserved.ensures.capacity);
      within = omega (arith, c.push_reserved.ensures.len);
      wide = simp length-set s.wide;
      few = s.few;
      chain = chain;
    }

pub returns-clause-answer : goal.returns-clause-answer
returns-clause-answer g c =
    let is : c.in-Some.last + 1 ≡ c.args.self.now.table.len = grind (arith, nat_tests) in
    let fits = takes_is c.args.self.now c.in-Some.last (entry_of 0 0 0) is in
    grind (arith, nat_tests, fits)

pub returns-clause-lists : goal.returns-clause-lists
returns-clause-lists g c =
    let s = c.args.self.now in
    let is : c.in-Some.last + 1 ≡ s.table.len = grind (arith, nat_tests) in
    rw c.push_reserved.ensures.items (lists_grown s c.in-Some.last (entry_of 0 0 0) is c.args.item _ c.set.ensures)
