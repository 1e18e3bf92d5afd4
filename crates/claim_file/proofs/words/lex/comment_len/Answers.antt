use Rattle.std.proofs.Common.{eqb, sym, rules}
use Rattle.std.proofs.lemmas.List.Sums.{position_or_len_is}
use Rattle.claim_file.proofs.words.lex.comment_len.Goals as goal

pub returns-clause-first : goal.returns-clause-first
returns-clause-first c = sym (position_or_len_is (λ b. eqb b 10) c.args.rest.now c.unwrap_or.result 0 (search rules) (search rules) (search rules))
