use Rattle.ledger.proofs.Laws.{law_of_runs}
use Rattle.ledger.proofs.law.Goals as goal

pub returns : goal.returns
returns g c = law_of_runs g.F.Field.ops g.met.F.Field.lawful
