-- What is written of a verdict and a fault.
use Rattle.std.specs.Prelude.{ℕ, List, [], ◌∷◌, ◌++◌, Ok, Err, codes, decimal, Result}
use Rattle.prover.specs.Refusals.{refusal_text}
use Rattle.prover.specs.declared.relation.Finding.{Finding}
use Rattle.prover.specs.declared.relation.Finding.TheVariants.{AllHold, RowFails, GateFails}
use Rattle.claim_file.specs.Faults.{fault_text as read_text}
use Rattle.claim_check.specs.Outcome.{told}
use Rattle.claim_check.specs.declared.fault.CheckFault.{CheckFault}
use Rattle.claim_check.specs.declared.fault.CheckFault.TheVariants.{Unreadable, Refused}

-- a fault in words
abbrev pub fault_words : CheckFault → List ℕ
fault_words (Unreadable e) = read_text e
fault_words (Refused e) = refusal_text e

-- a fault by its number, the line that it tells if any, and its words
abbrev pub fault_text : ℕ × List ℕ → List ℕ → List ℕ
fault_text (number, []) words = codes "refused " ++ (decimal number ++ (codes ": " ++ words))
fault_text (number, line ∷ more) words = codes "refused " ++ (decimal number ++ (codes ": line " ++ (decimal line ++ (codes ": " ++ words))))

-- whether a claim is true, or the fault for which that is not known
abbrev pub verdict_text : Result Finding CheckFault → List ℕ
verdict_text (Ok AllHold) = codes "true"
verdict_text (Ok (RowFails i)) = codes "false"
verdict_text (Ok (GateFails i)) = codes "false"
verdict_text (Err e) = fault_text (told e) (fault_words e)
