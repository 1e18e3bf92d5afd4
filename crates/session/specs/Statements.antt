-- What opening a statement makes of a session.
use Rattle.std.specs.Prelude.{◌≡◌, ℕ, ◌≤◌, List, map, None, Option}
use Rattle.field.specs.declared.Field.{Ghosts as FieldGhosts}
use Rattle.polynomial.specs.Refusals.{Told}
use Rattle.prover.specs.declared.claim.Statement.{Statement}
use Rattle.oracle.specs.Standing.{Standing, emptied, appended, fix_refusal}
use Rattle.ledger.specs.Ledger.{Move, opens, open_refusal}

-- the open of a statement
abbrev pub opens_of : {E K : Type 0} → (E → K) → Statement E → Move K
opens_of mean s = opens s.m s.n (map mean s.matrix.now) (map mean s.vector.now)

-- the refusal that fits it, where it is due
abbrev pub refusal_of : {E : Type 0} → (f : FieldGhosts E) → Standing f.K → Statement E → Option Told
refusal_of f st s = open_refusal f.ops st s.m s.n (map f.mean s.matrix.now) (map f.mean s.vector.now)

-- the sizes of lists M and x are not too large, and M and after it x find room in the oracle once it is cleared
pub record FitsLists {K : Type 0} (st : Standing K) (m n : ℕ) (matrix vector : List K) : Type 0 where
  pub few_rows : m ≤ 64
  pub few_gates : n ≤ 85
  pub first : fix_refusal (emptied st) matrix ≡ None
  pub second : fix_refusal (appended (emptied st) matrix) vector ≡ None

-- the same of a statement
abbrev pub Fits : {E K : Type 0} → (E → K) → Standing K → Statement E → Type 0
Fits mean st s = FitsLists st s.m s.n (map mean s.matrix.now) (map mean s.vector.now)
