-- What an oracle's refusals tell.
use Rattle.std.specs.Prelude.{ℕ, List, [], ◌∷◌, ◌++◌, Ok, Err, Result, codes}
use Rattle.std.specs.Fmt.{decimal}
use Rattle.polynomial.specs.Refusals.{Told}
use Rattle.oracle.specs.declared.fault.OracleFault.{OracleFault}
use Rattle.oracle.specs.declared.fault.OracleFault.TheVariants.{NoRoom, Full, TooLong, Absent}

-- every refusal with its number and the values that it tells
abbrev pub told : OracleFault → Told
told (NoRoom needed free) = (61, needed ∷ free ∷ [])
told Full = (62, [])
told TooLong = (63, [])
told Absent = (64, [])

-- a refusal in words
abbrev pub fault_text : OracleFault → List ℕ
fault_text (NoRoom needed free) = decimal needed ++ codes " cells are needed, and " ++ decimal free ++ codes " are free"
fault_text Full = codes "sixteen polynomials stand"
fault_text TooLong = codes "more than 16384 coefficients"
fault_text Absent = codes "there is no such polynomial"

-- an answer as it is told: a value by what g says it means, a refusal by its number and values
abbrev pub tells : {X Y : Type 0} → (X → Y) → Result X OracleFault → Result Y Told
tells g (Ok x) = Ok (g x)
tells g (Err e) = Err (told e)
