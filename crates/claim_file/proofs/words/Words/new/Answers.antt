use Rattle.std.proofs.Common.{refl}
use Rattle.claim_file.specs.Lexical.{words}
use Rattle.claim_file.specs.State.{ahead}
use Rattle.claim_file.proofs.words.Words.new.Goals as goal

pub returns : goal.returns
unfolding ahead words
returns c = record { kept = refl; all = refl }
