-- What the refusals of a claim tell, and which one fits.
use Rattle.std.specs.Prelude.{ℕ, ◌*◌, cond, List, [], Some, None, Option, codes, nat_lt}
use Rattle.field.specs.Field.{Ops}
use Rattle.polynomial.specs.Refusals.{Told}
use Rattle.inner_product.specs.declared.ClaimFault.{ClaimFault}
use Rattle.inner_product.specs.declared.ClaimFault.TheVariants.{TooWide, ZeroPoint}

-- every refusal with its number; none tells a value
abbrev pub told : ClaimFault → Told
told TooWide = (51, [])
told ZeroPoint = (22, [])

-- the words for a refusal
abbrev pub words : ClaimFault → List ℕ
words TooWide = codes "2d is above the field's span"
words ZeroPoint = codes "z is zero"

-- the first refusal that fits a claim with d at z: 51 where 2d is above the span, then 22 where z is zero
abbrev pub refusal : {K : Type 0} → Ops K → ℕ → K → Option Told
refusal f d z = cond (nat_lt f.span (2 * d)) (Some (told TooWide)) (cond (f.same z f.nil) (Some (told ZeroPoint)) None)
