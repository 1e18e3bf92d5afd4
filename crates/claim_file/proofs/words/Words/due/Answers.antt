use Rattle.std.proofs.Common.{ap}
use Rattle.claim_file.specs.Lexical.{last_line}
use Rattle.claim_file.specs.Grammar.{next_word}
use Rattle.claim_file.proofs.words.Words.due.Goals as goal

pub returns-in-Some : goal.returns-in-Some
unfolding next_word
returns-in-Some c =
    let t = c.in-Some.ensures in
    record { tells = rw t.1; kept = t.0 }

pub returns-in-None : goal.returns-in-None
unfolding next_word
returns-in-None c =
    let t = c.in-None.ensures in
    record { tells = rw (c.unfinished.ensures, ap (last_line 1) t.0, t.1); kept = t.0 }
