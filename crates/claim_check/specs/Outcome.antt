-- What checking a claim file answers.
use Rattle.std.specs.Prelude.{◌≡◌, ℕ, List, Ok, Err, Result}
use Rattle.field.specs.Field.{Ops}
use Rattle.algebra.specs.Relation.{Claim as Statement}
use Rattle.prover.specs.Claims.{claimed}
use Rattle.prover.specs.Findings.{Audited}
use Rattle.prover.specs.Refusals.{told as refusal_told}
use Rattle.claim_file.specs.Faults.{told as read_told}
use Rattle.prover.specs.declared.relation.Finding.{Finding}
use Rattle.claim_file.specs.Grammar.{Claim, read_spec}
use Rattle.claim_file.specs.Answer.{Refuses}
use Rattle.claim_file.specs.declared.FieldName.{FieldName}
use Rattle.claim_file.specs.declared.FieldName.TheVariants.{Mersenne31, Gf256}
use Rattle.claim_file.specs.declared.ReadFault.TheVariants.{NoMemory}
use Rattle.mersenne31.specs.Mersenne31.{modulo, rem}
use Rattle.gf256.specs.Gf256.{bytes, low}
use Rattle.claim_check.specs.declared.fault.CheckFault.{CheckFault}
use Rattle.claim_check.specs.declared.fault.CheckFault.TheVariants.{Unreadable, Refused}

-- every fault with its number and the values that it tells: those of what it holds
abbrev pub told : CheckFault → ℕ × List ℕ
told (Unreadable e) = read_told e
told (Refused e) = refusal_told e

-- the claim that the words of c stand for
abbrev pub stated : {K : Type 0} → (ℕ → K) → Claim → Statement K
stated stands c = claimed stands c.m c.n c.matrix c.vector c.left c.right c.out

-- an audit of the claim that the words of c stand for in a field; want of memory tells nothing
abbrev pub Audits : {K : Type 0} → Ops K → (ℕ → K) → Claim → Result Finding CheckFault → Type 0
Audits f stands c (Ok found) = Audited f (stated stands c) (Ok found)
Audits f stands c (Err (Refused e)) = Audited f (stated stands c) (Err e)
Audits f stands c (Err (Unreadable e)) = e ≡ NoMemory

-- the same over the field of a name
abbrev pub AuditsIn : FieldName → Claim → Result Finding CheckFault → Type 0
AuditsIn Mersenne31 c r = Audits modulo rem c r
AuditsIn Gf256 c r = Audits bytes low c r

-- the answer for a text: the first fault of the text, or the audit of the claim that it says
abbrev pub Answers : List ℕ → Result Finding CheckFault → Type 0
Answers text (Ok found) = (c : Claim) × (read_spec text ≡ Ok c) × AuditsIn c.field c (Ok found)
Answers text (Err (Refused e)) = (c : Claim) × (read_spec text ≡ Ok c) × AuditsIn c.field c (Err (Refused e))
Answers text (Err (Unreadable e)) = Refuses e (read_spec text)
