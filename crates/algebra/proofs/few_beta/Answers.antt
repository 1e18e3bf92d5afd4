use Rattle.algebra.proofs.Theorems.{few_beta}
use Rattle.algebra.proofs.few_beta.Goals as goal

pub returns : goal.returns
returns g c = few_beta g.F.Field.ops g.met.F.Field.lawful
