use Rattle.algebra.proofs.Theorems.{few_z}
use Rattle.algebra.proofs.few_z.Goals as goal

pub returns : goal.returns
returns g c = few_z g.F.Field.ops g.met.F.Field.lawful
