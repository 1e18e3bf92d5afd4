-- What a session stands for, and what a call makes of it.
use Rattle.std.specs.Prelude.{Option, Result}
use Rattle.field.specs.declared.Field.{Ghosts as FieldGhosts}
use Rattle.polynomial.specs.Refusals.{Told}
use Rattle.oracle.specs.declared.Oracle.{Ghosts as OracleGhosts}
use Rattle.ledger.specs.Ledger.{Move}
use Rattle.ledger.specs.States.{State, accepted, Tried, Made}
use Rattle.ledger.specs.declared.fault.SessionFault.{SessionFault}
use Rattle.session.specs.Verdicts.{verdict_number}
use Rattle.session.specs.declared.state.Session.{Session}
use Rattle.session.specs.declared.verdicts.Report.{Report}

-- the state that a session stands for, over an oracle and the field of its elements
abbrev pub state_of : {O E : Type 0} → (o : OracleGhosts O E) → (f : FieldGhosts E) → Session O E o f → State f.K
state_of o f s = record {
  oracle = o.stand s.oracle f;
  turn = s.turn;
  m = s.m;
  n = s.n;
  alpha = f.mean s.alpha;
  beta = f.mean s.beta;
  z = f.mean s.z;
  verdict = verdict_number s.verdict;
  count = s.count;
}

-- what it reports
abbrev pub report_of : {O E : Type 0} → {o : OracleGhosts O E} → {f : FieldGhosts E} → Session O E o f → Report
report_of s = record { turn = s.turn; verdict = s.verdict; count = s.count }

-- the call c tried on a session s, with the refusal that fits it, if any: the session t after it, and the answer r
abbrev pub Tries : {O E : Type 0} → (o : OracleGhosts O E) → (f : FieldGhosts E) → Option Told → Move f.K → Session O E o f → Session O E o f → Result (Unit {0}) SessionFault → Type 0
Tries o f refusal c s t r = Tried refusal (state_of o f s) (accepted f.ops (state_of o f s) c) (state_of o f t) r

-- the call c made on a session s: the session t after it, and the answer r
abbrev pub Makes : {O E : Type 0} → (o : OracleGhosts O E) → (f : FieldGhosts E) → Move f.K → Session O E o f → Session O E o f → Result (Unit {0}) SessionFault → Type 0
Makes o f c s t r = Made f.ops c (state_of o f s) (state_of o f t) r
