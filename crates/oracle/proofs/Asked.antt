-- What is asked of a polynomial that stands.
use Rattle.std.proofs.Common.{◌≡◌, ℕ, cond, [], List, Some, Ok, Err, length, slice_get, ap₂, lt-ltb}
use Rattle.std.proofs.lemmas.Option.{slice_get_within, get_or_from_slice_get}
use Rattle.field.specs.Field.{Ops}
use Rattle.algebra.specs.Polynomials.{value}
use Rattle.oracle.specs.Faults.{told}
use Rattle.oracle.specs.Standing.{Standing, ask_answer}
use Rattle.oracle.specs.declared.fault.OracleFault.TheVariants.{Absent}

pub asked : {K : Type 0} (f : Ops K) (s : Standing K) (k : ℕ) (x : K) (p : List K) → slice_get s.lists k ≡ Some p → ask_answer f s k x ≡ Ok (value f p x)
asked f s k x p h =
    ap₂ (λ b q. cond b (Ok (value f q x)) (Err (told Absent))) (lt-ltb k (length s.lists) (slice_get_within s.lists k p h)) (get_or_from_slice_get s.lists k p [] h)
