use Rattle.std.proofs.Common.{eqb, arith}
use Rattle.std.proofs.lemmas.Bool.Decides.{nat_tests}
use Rattle.std.proofs.lemmas.List.Filters.{length-filter_more}
use Rattle.claim_file.proofs.words.lex.line_ends.Goals as goal

pub loop-b-preserved : goal.loop-b-preserved
loop-b-preserved c =
    let more = length-filter_more (λ b. eqb b 10) c.args.text.now c.loop-b.b-index 0 (omega arith) in
    record { few = grind (arith, nat_tests); counted = grind (arith, nat_tests) }
