-- What the direct check finds of a claim.
use Rattle.std.specs.Prelude.{◌≡◌, ℕ, ◌<◌, Bool, List, ◌++◌, codes, decimal, Some, None, Ok, Err, Decides, Option, Result, ◌≢◌}
use Rattle.field.specs.Field.{Ops}
use Rattle.algebra.specs.Relation.{Claim, ZeroBelow, row_error, gate_error, Holds}
use Rattle.prover.specs.Refusals.{told, refusal}
use Rattle.prover.specs.declared.refusal.Refusal.{Refusal}
use Rattle.prover.specs.declared.relation.Finding.{Finding}
use Rattle.prover.specs.declared.relation.Finding.TheVariants.{AllHold, RowFails, GateFails}

-- the first of n elements that is not zero, or none where all are zero
abbrev pub FirstOff : {K : Type 0} → Ops K → ℕ → (ℕ → K) → Option ℕ → Type 0
FirstOff f n c None = ZeroBelow f n c
FirstOff f n c (Some i) = (i < n) × ZeroBelow f i c × (c i ≢ f.nil)

-- the finding is right: the claim is true; or the first row that fails; or, where every row holds, the first gate that fails
abbrev pub Correct : {K : Type 0} → Ops K → Claim K → Finding → Type 0
Correct f s AllHold = Holds f s
Correct f s (RowFails i) = FirstOff f s.m (row_error f s) (Some i)
Correct f s (GateFails i) = ZeroBelow f s.m (row_error f s) × FirstOff f s.n (gate_error f s) (Some i)

-- a finding in words, rows and gates counted from 0
abbrev pub finding_text : Finding → List ℕ
finding_text AllHold = codes "every row and every gate holds"
finding_text (RowFails i) = codes "row " ++ decimal i ++ codes " is the first that fails"
finding_text (GateFails i) = codes "every row holds; gate " ++ decimal i ++ codes " is the first that fails"

-- what `audit` answers of a claim
abbrev pub Audited : {K : Type 0} → Ops K → Claim K → Result Finding Refusal → Type 0
Audited f s (Ok found) = (refusal f.span s ≡ None) × Correct f s found
Audited f s (Err e) = refusal f.span s ≡ Some (told e)

-- what `check` answers of a claim: yes exactly where it is true
abbrev pub Checked : {K : Type 0} → Ops K → Claim K → Result Bool Refusal → Type 0
Checked f s (Ok answer) = (refusal f.span s ≡ None) × Decides answer (Holds f s)
Checked f s (Err e) = refusal f.span s ≡ Some (told e)
