use Rattle.std.proofs.Common.{arith}
use Rattle.mersenne31.specs.Trial.{prime}
use Rattle.mersenne31.proofs.modulus.Goals as goal

pub returns-clause-prime : goal.returns-clause-prime
returns-clause-prime c = (omega arith, λ d lo hi e. omega (arith, prime d lo hi))
