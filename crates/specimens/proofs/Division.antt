-- The division of two rows by X^4 - 10, coefficient by coefficient.
use mathlib.Core.Path.{◌≡◌, refl, sym, ap, ap₂, ◌∙◌}
use mathlib.Core.List.{List, [], ◌∷◌}
use Prim.Native.Nat.{ℕ, zero, suc, ◌+◌, ◌<◌}
use native.Mathlib.Omega.{arith}
use Rattle.field.proofs.Numbers.{below_path}
use Rattle.field.proofs.Ring.{mul_nil}
use Rattle.algebra.specs.Polynomials.{coeff, Divides}
use Rattle.algebra.proofs.Polynomials.{divides, coeff_past}
use Rattle.mersenne31.specs.Mersenne31.{Remainder, modulo, rem, p as n}
use Rattle.mersenne31.specs.Laws.{laws}
use Rattle.specimens.specs.Examples.{elements}

abbrev p : List Remainder
p = elements (5 ∷ 1 ∷ 2 ∷ 3 ∷ 1 ∷ 0 ∷ 0 ∷ 1 ∷ [])

abbrev q : List Remainder
q = elements (1 ∷ 0 ∷ 0 ∷ 1 ∷ [])

abbrev r : List Remainder
r = elements (15 ∷ 1 ∷ 2 ∷ 13 ∷ [])

steps : (k : ℕ) → coeff modulo q k ≡ modulo.add (coeff modulo p (k + 4)) (modulo.mul (rem 10) (coeff modulo q (k + 4)))
steps zero = below_path n refl
steps (suc zero) = below_path n refl
steps (suc (suc zero)) = below_path n refl
steps (suc (suc (suc zero))) = below_path n refl
steps (suc (suc (suc (suc k)))) =
    sym (ap₂ modulo.add (coeff_past modulo laws p (suc (suc (suc (suc k))) + 4) (omega arith))
    (ap (modulo.mul (rem 10)) (coeff_past modulo laws q (suc (suc (suc (suc k))) + 4) (omega arith)) ∙ mul_nil modulo laws (rem 10)) ∙ laws.add_nil (rem 0))

rests : (k : ℕ) → k < 4 → coeff modulo r k ≡ modulo.add (coeff modulo p k) (modulo.mul (rem 10) (coeff modulo q k))
rests zero h = below_path n refl
rests (suc zero) h = below_path n refl
rests (suc (suc zero)) h = below_path n refl
rests (suc (suc (suc zero))) h = below_path n refl
rests (suc (suc (suc (suc k)))) h = absurd (omega arith)

pub two_rows : Divides modulo p 4 (rem 10) q r
two_rows = divides modulo laws p q r 4 (rem 10) (omega arith) refl steps rests
