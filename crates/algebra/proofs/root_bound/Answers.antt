use Rattle.algebra.proofs.Theorems.{root_bound}
use Rattle.algebra.proofs.root_bound.Goals as goal

pub returns : goal.returns
returns g c = root_bound g.F.Field.ops g.met.F.Field.lawful
