use Rattle.std.proofs.Common.{sym, rules}
use Rattle.std.proofs.lemmas.List.Sums.{position_or_len_is}
use Rattle.claim_file.specs.State.{apart}
use Rattle.claim_file.proofs.words.lex.word_len.Goals as goal

pub returns-clause-first : goal.returns-clause-first
returns-clause-first c = sym (position_or_len_is apart c.args.rest.now c.unwrap_or.result 0 (search rules) (search rules) (search rules))
