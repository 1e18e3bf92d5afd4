-- The numbers and the words of the verdicts.
use Rattle.std.specs.Prelude.{ℕ, List, codes}
use Rattle.session.specs.declared.verdicts.Verdict.{Verdict}
use Rattle.session.specs.declared.verdicts.Verdict.TheVariants.{Pending, Accepted, TurnedDown}

-- every verdict with its number
abbrev pub verdict_number : Verdict → ℕ
verdict_number Pending = 0
verdict_number Accepted = 1
verdict_number TurnedDown = 2

-- the words for a verdict
abbrev pub words : Verdict → List ℕ
words Pending = codes "none"
words Accepted = codes "accepted"
words TurnedDown = codes "turned down"
