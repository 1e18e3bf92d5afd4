-- The calls of a whole transcript.
use Rattle.std.specs.Prelude.{List, [], ◌∷◌}
use Rattle.ledger.specs.declared.call.Call.{Call}
use Rattle.ledger.specs.declared.call.Call.TheVariants.{Open, Put, Draw, Judge}
use Rattle.ledger.specs.declared.transcript.Transcript.{Transcript}

-- the statement; wl, wr, wo; α and β; r, q, h1, h2; z; and the test
abbrev pub calls_of : {E : Type 0} → Transcript E → List (Call E)
calls_of t =
    Open t.claim.statement ∷ Put t.claim.wires.left ∷ Put t.claim.wires.right ∷ Put t.claim.wires.out ∷ Draw t.alpha ∷ Draw t.beta
    ∷ Put t.reply.r ∷ Put t.reply.q ∷ Put t.reply.h1 ∷ Put t.reply.h2 ∷ Draw t.z ∷ Judge ∷ []
