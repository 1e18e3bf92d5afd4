use Rattle.std.proofs.Common.{arith}
use Rattle.std.proofs.lemmas.List.{nil_from_length}
use Rattle.claim_file.specs.Lexical.{last_line}
use Rattle.claim_file.proofs.Lexing.{last_counted}
use Rattle.claim_file.proofs.words.lex.last_line.Goals as goal

pub returns-in-Some : goal.returns-in-Some
returns-in-Some c = rw c.in-Some.ensures.cases.0 (omega (arith, last_counted 1 c.in-Some.field-0-0.now c.in-Some.before.now, c.line_ends.ensures.count))

pub returns-in-None : goal.returns-in-None
unfolding last_line
returns-in-None c = rw (nil_from_length c.args.text.now c.in-None.ensures.cases)
