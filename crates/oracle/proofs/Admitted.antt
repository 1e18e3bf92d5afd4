-- What it says that no refusal fits.
use Rattle.std.proofs.Common.{◌≡◌, ℕ, ◌<◌, ◌≤◌, None, arith}
use Rattle.std.proofs.lemmas.Bool.Decides.{nat_tests}
use Rattle.oracle.specs.Admission.{refusal_of}

pub record Admitted (standing long needed free : ℕ) : Type 0 where
  pub few : standing < 16
  pub short : long ≤ 16384
  pub room : needed ≤ free

pub admitted : (standing long needed free : ℕ) → refusal_of standing long needed free ≡ None → Admitted standing long needed free
admitted standing long needed free h = record { few = grind (arith, nat_tests); short = grind (arith, nat_tests); room = grind (arith, nat_tests) }
