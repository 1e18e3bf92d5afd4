-- What `encode` answers.
use Rattle.std.specs.Prelude.{◌≡◌, ℕ, List, map, length, None, Ok, Err, Result}
use Rattle.field.specs.Field.{Ops}
use Rattle.prover.specs.Owned.{owned_claim}
use Rattle.prover.specs.declared.owned.OwnedClaim.{OwnedClaim}
use Rattle.quadratic.specs.declared.fault.Fault.{Fault}
use Rattle.quadratic.specs.Systems.{system_of}
use Rattle.quadratic.specs.Encodings.{encoded, Faithful}
use Rattle.quadratic.specs.Refusals.{refusal, Refuses}

-- a system, a signature and a digest that no refusal fits become the claim `encoded`, which is true exactly if the signature solves the system
abbrev pub Encodes : {X K : Type 0} → Ops K → (X → K) → ℕ → List (ℕ × ℕ) → List X → List X → List X → Result (OwnedClaim X) Fault → Type 0
Encodes f mean v pairs coefficients signature y (Ok e) =
    (refusal v pairs (length coefficients) (length signature) (length y) ≡ None)
    × (owned_claim mean e ≡ encoded f (system_of mean v pairs coefficients) (map mean signature) (map mean y))
    × Faithful f (system_of mean v pairs coefficients) (map mean signature) (map mean y) (owned_claim mean e)
Encodes f mean v pairs coefficients signature y (Err fault) = Refuses fault (refusal v pairs (length coefficients) (length signature) (length y))
