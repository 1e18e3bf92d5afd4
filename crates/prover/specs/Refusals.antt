-- What a refusal tells, and which one fits a claim.
use Rattle.std.specs.Prelude.{ℕ, cond, List, [], length, Some, None, Option, codes}
use Rattle.algebra.specs.Relation.{Claim}
use Rattle.prover.specs.Claims.{in_range, in_shape, all_but_vector}
use Rattle.prover.specs.declared.refusal.Refusal.{Refusal}
use Rattle.prover.specs.declared.refusal.Refusal.TheVariants.{BadSize, BadLength, ShortBuffer, ZeroChallenge}

-- a refusal's number with the values that it tells
abbrev pub Told : Type 0
Told = ℕ × List ℕ

-- every refusal with its number; none tells a value
abbrev pub told : Refusal → Told
told BadSize = (12, [])
told BadLength = (13, [])
told ShortBuffer = (16, [])
told ZeroChallenge = (22, [])

-- a refusal in words
abbrev pub refusal_text : Refusal → List ℕ
refusal_text BadSize = codes "m is outside 1 to 64, n is outside 1 to 85, or 6n is above the field's span"
refusal_text BadLength = codes "the matrix, the vector or a wire has the wrong length"
refusal_text ZeroChallenge = codes "a challenge is zero"
refusal_text ShortBuffer = codes "the buffer is too short"

-- the first refusal that fits: 12 for the sizes, then 13 for the lengths
abbrev pub refusal : {K : Type 0} → ℕ → Claim K → Option Told
refusal span s =
    cond (in_range span s.m s.n)
    (cond (in_shape s.m s.n (length s.matrix) (length s.vector) (length s.left) (length s.right) (length s.out)) None (Some (told BadLength)))
    (Some (told BadSize))

-- the first that fits whatever the length of x
abbrev pub refusal_but_vector : {K : Type 0} → ℕ → Claim K → Option Told
refusal_but_vector span s =
    cond (in_range span s.m s.n)
    (cond (all_but_vector s.m s.n (length s.matrix) (length s.left) (length s.right) (length s.out)) None (Some (told BadLength)))
    (Some (told BadSize))
