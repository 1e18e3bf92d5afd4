use Rattle.algebra.proofs.Theorems.{sound}
use Rattle.algebra.proofs.sound.Goals as goal

pub returns : goal.returns
returns g c = sound g.F.Field.ops g.met.F.Field.lawful
