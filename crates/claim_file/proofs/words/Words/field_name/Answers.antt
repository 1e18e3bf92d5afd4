use Rattle.std.proofs.Common.{ℕ, Bool, true, false, cond, List, None, Some, Ok, Err, refl}
use Rattle.std.specs.Option.{ok_or}
use Rattle.claim_file.specs.declared.FieldName.{FieldName}
use Rattle.claim_file.specs.declared.FieldName.TheVariants.{Mersenne31, Gf256}
use Rattle.claim_file.specs.declared.ReadFault.TheVariants.{UnexpectedWord}
use Rattle.claim_file.specs.Lexical.{Located}
use Rattle.claim_file.specs.Faults.{told}
use Rattle.claim_file.specs.Grammar.{field_name}
use Rattle.claim_file.specs.Answer.{Tells}
use Rattle.claim_file.proofs.Chains.{and_err, passed_on}
use Rattle.claim_file.proofs.words.Words.field_name.Goals as goal

-- by whether the word is the first name, or the second
by_name : (first second : Bool) (line : ℕ) (rest : List Located) → Tells {A = FieldName × List Located} (λ field. (field, rest)) (ok_or (cond first (Some Mersenne31) (cond second (Some Gf256) None)) (UnexpectedWord line)) (cond first (Ok (Mersenne31, rest)) (cond second (Ok (Gf256, rest)) (Err (told (UnexpectedWord line)))))
by_name true second line rest = refl
by_name false true line rest = refl
by_name false false line rest = refl

pub returns-in_err-word : goal.returns-in_err-word
unfolding field_name
returns-in_err-word c = passed_on _ c.from_residual.ensures.1 (and_err _ _ c.in_err-word.ensures)

pub returns : goal.returns
unfolding field_name
returns c =
    let t = c.in_ok-word.ensures in
    record {
      tells = rw (c.ok_or.ensures.value, c.named.ensures, c.unexpected.ensures, t.tells) (by_name _ _ _ _);
      kept = t.kept;
    }
