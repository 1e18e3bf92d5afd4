use Rattle.algebra.proofs.Theorems.{complete}
use Rattle.algebra.proofs.complete.Goals as goal

pub returns : goal.returns
returns g c = complete g.F.Field.ops g.met.F.Field.lawful
