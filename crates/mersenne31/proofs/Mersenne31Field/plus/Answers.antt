use Rattle.std.proofs.Common.{arith}
use Rattle.field.proofs.Numbers.{below_path}
use Rattle.mersenne31.specs.Mersenne31.{p}
use Rattle.mersenne31.proofs.Mersenne31Field.plus.Goals as goal

pub returns : goal.returns
returns c = record { means = below_path p (omega arith); tidy = omega arith }
