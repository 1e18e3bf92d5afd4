use Rattle.std.proofs.Common.{◌≡◌, ◌+◌, ◌++◌, length, vec_items, vec_len, ap, ◌∙◌, arith, length-set}
use Rattle.std.proofs.lemmas.Bool.Decides.{nat_tests}
use Rattle.oracle.specs.Tables.{entry_of}
use Rattle.oracle.proofs.StoreLemmas.{fits_is, chain_more, lists_more}
use Rattle.oracle.proofs.store.Store.append.Goals as goal

pub invariant_of-self : goal.invariant_of-self
invariant_of-self g c =
    let s = c.args.self.now in
    let q = c.args.items.now in
    let is = c.set.ensures ∙ ap (λ n. entry_of n (length q) c.args.long) c.len-start.ensures in
    let more : vec_len c.extend_from_slice.new.self ≡ vec_len s.storage + length q = rw c.unwrap.ensures at c.extend_from_slice.ensures.len in
    record {
      stocked = omega (arith, s.stocked, c.extend_from_slice.ensures.capacity);
      within = omega (arith, more, s.within, c.len-start.ensures, c.if-items-self.false);
      wide = simp length-set s.wide;
      few = omega arith;
      chain = chain_more s q c.args.long _ is c.if-len-ge-MOST_LISTS.false _ c.if-items-gt-MOST_COEFFICIENTS.false more;
    }

pub returns-clause-answer : goal.returns-clause-answer
returns-clause-answer g c =
    let s = c.args.self.now in
    grind (arith, nat_tests, fits_is s (length c.args.items.now), s.within)

pub returns-clause-lists : goal.returns-clause-lists
returns-clause-lists g c =
    let s = c.args.self.now in
    let q = c.args.items.now in
    let is = c.set.ensures ∙ ap (λ n. entry_of n (length q) c.args.long) c.len-start.ensures in
    let items : vec_items c.extend_from_slice.new.self ≡ vec_items s.storage ++ q = rw c.unwrap.ensures at c.extend_from_slice.ensures.items in
    rw items (lists_more s q c.args.long _ is c.if-len-ge-MOST_LISTS.false)
