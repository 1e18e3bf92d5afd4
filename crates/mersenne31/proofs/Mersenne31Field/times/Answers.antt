use Rattle.std.proofs.Common.{arith}
use Rattle.field.proofs.Numbers.{below_path}
use Rattle.mersenne31.specs.Mersenne31.{p}
use Rattle.mersenne31.specs.ModLemmas.{mods_mul}
use Rattle.mersenne31.proofs.Mersenne31Field.times.Goals as goal

pub returns : goal.returns
returns c = record { means = below_path p (omega (arith, mods_mul c.args.self.0 c.args.other.0 p)); tidy = omega arith }
