use Rattle.claim_file.specs.Numbers.{number_of}
use Rattle.claim_file.proofs.numbers.number.Goals as goal

pub returns-in-Some : goal.returns-in-Some
unfolding number_of
returns-in-Some c = rw (c.digits.ensures, c.in-Some.ensures.cases.1, c.in-Some.ensures.cases.0)

pub returns-in-None : goal.returns-in-None
unfolding number_of
returns-in-None c = rw (c.digits-in-None.ensures, c.in-None.ensures.cases)
