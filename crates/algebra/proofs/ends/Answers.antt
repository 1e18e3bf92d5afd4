use Rattle.algebra.proofs.Theorems.{ends}
use Rattle.algebra.proofs.ends.Goals as goal

pub returns : goal.returns
returns g c = ends g.F.Field.ops g.met.F.Field.lawful
