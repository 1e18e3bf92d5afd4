-- A session's state, and what each call makes of it.
use Rattle.std.specs.Prelude.{◌≡◌, ℕ, ◌+◌, min, Bool, cond, List, [], ◌∷◌, Option, Result, ◌==◌}
use Rattle.field.specs.Field.{Ops}
use Rattle.polynomial.specs.Refusals.{Told}
use Rattle.oracle.specs.Standing.{Standing, appended, emptied, answer_by, after_by}
use Rattle.equations.specs.Tests.{accepts}
use Rattle.ledger.specs.Faults.{told_answer}
use Rattle.ledger.specs.Ledger.{Move, opens, puts, draws, judges, refusal_at}
use Rattle.ledger.specs.declared.fault.SessionFault.{SessionFault}

-- what a session has: its oracle's standing, turn, sizes, challenges, verdict (0 none, 1 accepted, 2 turned down) and count of refused calls
pub record State (K : Type 0) : Type 0 where
  pub oracle : Standing K
  pub turn : ℕ
  pub m : ℕ
  pub n : ℕ
  pub alpha : K
  pub beta : K
  pub z : K
  pub verdict : ℕ
  pub count : ℕ

-- a new session, over an oracle that is cleared
abbrev pub fresh : {K : Type 0} → Ops K → Standing K → State K
fresh f st = record { oracle = emptied st; turn = 0; m = 0; n = 0; alpha = f.nil; beta = f.nil; z = f.nil; verdict = 0; count = 0 }

-- the verdict of that finding
abbrev pub verdict_by : Bool → ℕ
verdict_by b = cond b 1 2

-- the state after an accepted call
abbrev pub accepted : {K : Type 0} → Ops K → State K → Move K → State K
accepted f s (opens m n matrix vector) = record {
  oracle = appended (appended (emptied s.oracle) matrix) vector;
  turn = 1;
  m = m;
  n = n;
  alpha = s.alpha;
  beta = s.beta;
  z = s.z;
  verdict = s.verdict;
  count = s.count;
}
accepted f s (puts p) = record {
  oracle = appended s.oracle p;
  turn = s.turn + 1;
  m = s.m;
  n = s.n;
  alpha = s.alpha;
  beta = s.beta;
  z = s.z;
  verdict = s.verdict;
  count = s.count;
}
accepted f s (draws x) = record {
  oracle = s.oracle;
  turn = s.turn + 1;
  m = s.m;
  n = s.n;
  alpha = cond (s.turn == 4) x s.alpha;
  beta = cond (s.turn == 5) x s.beta;
  z = cond (s.turn == 10) x s.z;
  verdict = s.verdict;
  count = s.count;
}
accepted f s judges = record {
  oracle = s.oracle;
  turn = 12;
  m = s.m;
  n = s.n;
  alpha = s.alpha;
  beta = s.beta;
  z = s.z;
  verdict = verdict_by (accepts f s.n s.oracle.lists s.alpha s.beta s.z);
  count = s.count;
}

-- the state after a refused call: the count is one more, up to 4,294,967,295
abbrev pub refused : {K : Type 0} → State K → State K
refused s = record {
  oracle = s.oracle;
  turn = s.turn;
  m = s.m;
  n = s.n;
  alpha = s.alpha;
  beta = s.beta;
  z = s.z;
  verdict = s.verdict;
  count = min (s.count + 1) 4294967295;
}

-- the refusal that fits a call, if any
abbrev pub step_refusal : {K : Type 0} → Ops K → State K → Move K → Option Told
step_refusal f s c = refusal_at f s.oracle s.turn s.m s.n c

-- the state after a call
abbrev pub stepped : {K : Type 0} → Ops K → State K → Move K → State K
stepped f s c = after_by (step_refusal f s c) (refused s) (accepted f s c)

-- the state after the calls cs
abbrev pub ran : {K : Type 0} → Ops K → State K → List (Move K) → State K
ran f s [] = s
ran f s (c ∷ cs) = ran f (stepped f s c) cs

-- a call tried and not yet counted, with the refusal o that fits it, if any: its answer r, and the state t after s, which is a where none fits
pub record Tried {K : Type 0} (o : Option Told) (s a t : State K) (r : Result (Unit {0}) SessionFault) : Type 0 where
  pub answer : told_answer r ≡ answer_by o
  pub after : t ≡ after_by o s a

-- a call made: its answer r, and the state t after s
pub record Made {K : Type 0} (f : Ops K) (c : Move K) (s t : State K) (r : Result (Unit {0}) SessionFault) : Type 0 where
  pub answer : told_answer r ≡ answer_by (step_refusal f s c)
  pub after : t ≡ stepped f s c
