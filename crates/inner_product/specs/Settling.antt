-- When the settlement of a claim says yes.
use Rattle.std.specs.Prelude.{◌≡◌, ℕ, Bool}
use Rattle.field.specs.Field.{Ops, power}
use Rattle.algebra.specs.Sums.{sub}

-- γ^d·yh - yh2
abbrev pub left_side : {K : Type 0} → Ops K → ℕ → K → K → K
left_side f d yh yh2 = sub f (f.mul (power f f.gamma d) yh) yh2

-- z^d·(ya·yb - c)
abbrev pub right_side : {K : Type 0} → Ops K → ℕ → K → K → K → K → K
right_side f d c z ya yb = f.mul (power f z d) (sub f (f.mul ya yb) c)

-- γ^d·yh - yh2 = z^d·(ya·yb - c)
abbrev pub Settles : {K : Type 0} → Ops K → ℕ → K → K → K → K → K → K → Type 0
Settles f d c z ya yb yh yh2 = left_side f d yh yh2 ≡ right_side f d c z ya yb

-- the same as a test
abbrev pub settles : {K : Type 0} → Ops K → ℕ → K → K → K → K → K → K → Bool
settles f d c z ya yb yh yh2 = f.same (left_side f d yh yh2) (right_side f d c z ya yb)
