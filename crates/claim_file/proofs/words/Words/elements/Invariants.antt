use Rattle.std.proofs.Common.{◌≡◌, length, vec_items}
use Rattle.claim_file.specs.Lexical.{last_line}
use Rattle.claim_file.specs.State.{text_of, ahead}
use Rattle.claim_file.specs.Grammar.{order, numbers}
use Rattle.claim_file.proofs.Chains.{prefixed}
use Rattle.claim_file.proofs.words.Words.elements.Given as goal

abbrev pub invariant-loop-word : goal.invariant-loop-word
invariant-loop-word l =
    let last = last_line 1 (text_of l.initial.self) in
    record {
      kept : text_of l.self ≡ text_of l.initial.self;
      said : prefixed (vec_items l.list) (numbers last (order l.fn.field) l.end (ahead l.self)) ≡ numbers last (order l.fn.field) l.end (ahead l.initial.self);
    }

abbrev pub decreases-loop-word : goal.decreases-loop-word
decreases-loop-word l = length (ahead l.self)
