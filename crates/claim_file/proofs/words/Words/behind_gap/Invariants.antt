use Rattle.std.proofs.Common.{◌≡◌, ◌+◌, ◌≤◌, false, [], length}
use Rattle.claim_file.specs.Lexical.{bare, words_after}
use Rattle.claim_file.specs.State.{text_of, ahead}
use Rattle.claim_file.proofs.words.Words.behind_gap.Given as goal

abbrev pub invariant-loop-b : goal.invariant-loop-b
invariant-loop-b l = record {
  counted : l.line + length l.rest ≤ length (text_of l.self) + 1;
  same : words_after l.line [] (bare false l.rest) ≡ ahead l.self;
}

abbrev pub decreases-loop-b : goal.decreases-loop-b
decreases-loop-b l = length l.rest
