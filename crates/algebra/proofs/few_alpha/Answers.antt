use Rattle.algebra.proofs.Theorems.{few_alpha}
use Rattle.algebra.proofs.few_alpha.Goals as goal

pub returns : goal.returns
returns g c = few_alpha g.F.Field.ops g.met.F.Field.lawful
