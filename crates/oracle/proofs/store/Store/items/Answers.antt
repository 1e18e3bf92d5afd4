use Rattle.std.proofs.Common.{sym, ◌∙◌}
use Rattle.oracle.proofs.StoreLemmas.{items_of-lists_of}
use Rattle.oracle.proofs.store.Store.items.Goals as goal

pub returns : goal.returns
returns g c = c.as_slice.ensures.value ∙ sym (items_of-lists_of c.args.self.now)
