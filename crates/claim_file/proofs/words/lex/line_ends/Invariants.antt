use Rattle.std.proofs.Common.{◌≡◌, ◌≤◌, eqb, filter, length, take}
use Rattle.claim_file.proofs.words.lex.line_ends.Given as goal

abbrev pub invariant-loop-b : goal.invariant-loop-b
invariant-loop-b l = record {
  few : l.ends ≤ l.b-index;
  counted : l.ends ≡ length (filter (λ b. eqb b 10) (take l.b-index l.text));
}
