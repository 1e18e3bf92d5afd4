-- From the audit of the claim that a text says to the answer for the text.
use Rattle.std.proofs.Common.{◌≡◌, ℕ, ◌%◌, List, [], ◌∷◌, map, Ok, Err, Result, sym, refl, subst, ap₂}
use native.Mathlib.Nat.{mod-mod}
use Rattle.field.proofs.Numbers.{below_path}
use Rattle.algebra.specs.Relation.{Claim as Statement}
use Rattle.prover.specs.Findings.{Audited}
use Rattle.prover.specs.declared.relation.Finding.{Finding}
use Rattle.claim_file.specs.Grammar.{Claim, read_spec}
use Rattle.claim_file.specs.Answer.{Refuses}
use Rattle.claim_file.specs.declared.FieldName.{FieldName}
use Rattle.claim_file.specs.declared.FieldName.TheVariants.{Mersenne31, Gf256}
use Rattle.claim_file.specs.declared.ReadFault.{ReadFault}
use Rattle.claim_file.specs.declared.ReadFault.TheVariants.{NoMemory}
use Rattle.gf256.specs.Gf256.{Byte, bytes, low}
use Rattle.claim_check.specs.declared.fault.CheckFault.{CheckFault}
use Rattle.claim_check.specs.declared.fault.CheckFault.TheVariants.{Unreadable, Refused}
use Rattle.claim_check.specs.Outcome.{stated, Audits, AuditsIn, Answers}

-- the lowest byte of a word is its own lowest byte
lowest : (ws : List ℕ) → map (λ w. low (w % 256)) ws ≡ map low ws
lowest [] = refl
lowest (w ∷ ws) = ap₂ ◌∷◌ (below_path 256 (mod-mod w 256)) (lowest ws)

same_bytes : (c : Claim) → stated (λ w. low (w % 256)) c ≡ stated low c
same_bytes c = cc (lowest c.matrix, lowest c.vector, lowest c.left, lowest c.right, lowest c.out)

pub as_bytes : (c : Claim) (r : Result Finding CheckFault) → Audits bytes (λ w. low (w % 256)) c r → Audits bytes low c r
as_bytes c (Ok found) h = subst (λ (s : Statement Byte). Audited bytes s (Ok found)) (same_bytes c) h
as_bytes c (Err (Refused e)) h = subst (λ (s : Statement Byte). Audited bytes s (Err e)) (same_bytes c) h
as_bytes c (Err (Unreadable e)) h = h

-- an audit reads no text, so that it can only want memory
only_memory : (field : FieldName) (c : Claim) (e : ReadFault) → AuditsIn field c (Err (Unreadable e)) → e ≡ NoMemory
only_memory Mersenne31 c e h = h
only_memory Gf256 c e h = h

pub answers : (text : List ℕ) (c : Claim) (r : Result Finding CheckFault) → read_spec text ≡ Ok c → AuditsIn c.field c r → Answers text r
answers text c (Ok found) e h = (c, e, h)
answers text c (Err (Refused x)) e h = (c, e, h)
answers text c (Err (Unreadable x)) e h = subst (λ (y : ReadFault). Refuses y (read_spec text)) (sym (only_memory c.field c x h)) tt
