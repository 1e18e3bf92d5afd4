use Rattle.std.proofs.Common.{◌≡◌, ◌+◌, ◌-◌, option_map, get_or, sym, ap, arith}
use Rattle.oracle.specs.Tables.{entry_of}
use Rattle.oracle.proofs.StoreLemmas.{list_at}
use Rattle.oracle.proofs.store.Store.list.Goals as goal

pub returns : goal.returns
returns g c =
    let e = get_or c.args.self.now.table.entries c.args.k (entry_of 0 0 0) in
    let n : e.start + e.count - e.start ≡ e.count = omega arith in
    rw (n, c.as_slice-storage.ensures.value) (sym (ap (option_map (λ p. p.items)) (list_at c.args.self.now c.args.k (entry_of 0 0 0) c.if-k-self.false)))
