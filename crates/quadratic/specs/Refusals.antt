-- What a fault tells, and which one fits a system with a signature and a digest.
use Rattle.std.specs.Prelude.{◌≡◌, ℕ, ◌+◌, ◌*◌, cond, List, [], ◌∷◌, ◌++◌, length, Some, None, Option, ◌==◌, codes, decimal, nat_lt}
use Rattle.quadratic.specs.declared.fault.Fault.{Fault}
use Rattle.quadratic.specs.declared.fault.Fault.TheVariants.{SignatureLength, CoefficientsLength, StrayPair, UnusedVariable, NoMemory}
use Rattle.quadratic.specs.Positions.{stray, unused}

-- a fault's number with the values that it tells
abbrev pub Told : Type 0
Told = ℕ × List ℕ

-- 81: the signature's length; 82: the coefficients' length; 83: a pair with a variable that is not there; 84: a variable in no pair; 85: want of memory
abbrev pub told : Fault → Told
told SignatureLength = (81, [])
told CoefficientsLength = (82, [])
told (StrayPair pair) = (83, pair ∷ [])
told (UnusedVariable variable) = (84, variable ∷ [])
told NoMemory = (85, [])

-- a fault in words, with the number that it tells
abbrev pub fault_text : Fault → List ℕ
fault_text SignatureLength = codes "the signature has not an entry for each variable"
fault_text CoefficientsLength = codes "the coefficients are not a row for each equation"
fault_text (StrayPair pair) = codes "pair " ++ decimal pair ++ codes " names an unknown variable"
fault_text (UnusedVariable variable) = codes "variable " ++ decimal variable ++ codes " is in no pair"
fault_text NoMemory = codes "no memory is left, or a size is too large"

-- p where it is below n
abbrev pub found : ℕ → ℕ → Option ℕ
found n p = cond (nat_lt p n) (Some p) None

-- the first refusal that fits v variables, the pairs, the lengths of coefficients and signature, and e equations
abbrev pub refusal : ℕ → List (ℕ × ℕ) → ℕ → ℕ → ℕ → Option Told
refusal v pairs coefficients signature e =
    cond (signature == v)
    (cond (coefficients == e * (1 + v + length pairs))
    (cond (nat_lt (stray v pairs) (length pairs)) (Some (told (StrayPair (stray v pairs))))
    (cond (nat_lt (unused v pairs) v) (Some (told (UnusedVariable (unused v pairs)))) None))
    (Some (told CoefficientsLength)))
    (Some (told SignatureLength))

-- a fault is the one that fits; memory was wanting only where none fits
abbrev pub Refuses : Fault → Option Told → Type 0
Refuses SignatureLength said = said ≡ Some (told SignatureLength)
Refuses CoefficientsLength said = said ≡ Some (told CoefficientsLength)
Refuses (StrayPair pair) said = said ≡ Some (told (StrayPair pair))
Refuses (UnusedVariable variable) said = said ≡ Some (told (UnusedVariable variable))
Refuses NoMemory said = said ≡ None
