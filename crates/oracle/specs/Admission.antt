-- Which lists an oracle takes in.
use Rattle.std.specs.Prelude.{ℕ, cond, Some, None, Option, nat_le, nat_lt}
use Rattle.polynomial.specs.Refusals.{Told}
use Rattle.oracle.specs.Faults.{told}
use Rattle.oracle.specs.declared.fault.OracleFault.TheVariants.{NoRoom, Full, TooLong}

-- the refusal that fits a list, where so many polynomials stand, the list is so long, and so many cells are needed and free: 62, 63, 61, in that order
abbrev pub refusal_of : ℕ → ℕ → ℕ → ℕ → Option Told
refusal_of standing long needed free =
    cond (nat_le 16 standing) (Some (told Full))
    (cond (nat_lt 16384 long) (Some (told TooLong)) (cond (nat_lt free needed) (Some (told (NoRoom needed free))) None))
