-- What a session's refusals tell.
use Rattle.std.specs.Prelude.{ℕ, List, [], ◌∷◌, Some, None, Ok, Err, Option, Result, codes}
use Rattle.polynomial.specs.Refusals.{Told}
use Rattle.oracle.specs.Faults as oracle
use Rattle.ledger.specs.declared.fault.SessionFault.{SessionFault}
use Rattle.ledger.specs.declared.fault.SessionFault.TheVariants.{OutOfTurn, BadSize, BadLength, TooMany, Oracle, DrawOutOfTurn, ZeroChallenge, JudgeOutOfTurn}

-- 15, which tells what an oracle's refusal tells, its number first
abbrev pub holding : Told → Told
holding t = (15, t.0 ∷ t.1)

-- every refusal with its number and the values that it tells
abbrev pub told : SessionFault → Told
told OutOfTurn = (11, [])
told BadSize = (12, [])
told BadLength = (13, [])
told TooMany = (14, [])
told (Oracle e) = holding (oracle.told e)
told DrawOutOfTurn = (21, [])
told ZeroChallenge = (22, [])
told JudgeOutOfTurn = (31, [])

-- the words for a refusal
abbrev pub words : SessionFault → List ℕ
words OutOfTurn = codes "no such polynomial is due"
words BadSize = codes "m, n or 6n is out of bounds"
words BadLength = codes "M or x has the wrong length"
words TooMany = codes "too many coefficients for this turn"
words (Oracle e) = codes "the oracle refuses"
words DrawOutOfTurn = codes "no challenge is due"
words ZeroChallenge = codes "the challenge is zero"
words JudgeOutOfTurn = codes "judge is not due"

-- a session's answer as it is told: yes, or the refusal by its number and values
abbrev pub told_answer : Result (Unit {0}) SessionFault → Result (Unit {0}) Told
told_answer (Ok u) = Ok u
told_answer (Err e) = Err (told e)

-- an oracle's refusal, if any, as the session tells it
abbrev pub held : Option Told → Option Told
held (Some t) = Some (holding t)
held None = None
