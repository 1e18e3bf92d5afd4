-- The quotients of a middle product, and the one lucky challenge of two errors.
use mathlib.Core.Path.{◌≡◌, refl, sym, ap, ap₂, ◌∙◌}
use mathlib.Core.List.{[], ◌∷◌}
use Prim.Native.Nat.{ℕ, zero, suc, ◌-◌}
use native.Mathlib.Omega.{arith}
use Rattle.field.proofs.Numbers.{below_path}
use Rattle.field.proofs.Ring as R
use Rattle.algebra.specs.Polynomials.{coeff}
use Rattle.algebra.specs.Proofs.{Solves}
use Rattle.algebra.specs.Challenges.{Lucky, series}
use Rattle.mersenne31.specs.Mersenne31.{Remainder, modulo, rem, p}
use Rattle.mersenne31.specs.Laws.{laws}
use Rattle.specimens.specs.Examples.{elements}

abbrev errors : ℕ → Remainder
errors = coeff modulo (elements (5 ∷ (p - 1) ∷ []))

pub twist_of_pairs : Solves modulo 1 (coeff modulo (elements (1 ∷ 0 ∷ (p - 1) ∷ []))) (coeff modulo (elements (6 ∷ 42 ∷ []))) (coeff modulo (elements (1 ∷ 1 ∷ [])))
twist_of_pairs zero h o = below_path p refl
twist_of_pairs (suc zero) h o = absurd (o refl)
twist_of_pairs (suc (suc zero)) h o = below_path p refl
twist_of_pairs (suc (suc (suc k))) h o = absurd (omega arith)

pub lucky_5 : Lucky modulo 2 errors (rem 5)
lucky_5 = record { off = (0, omega arith, λ e. let z = ap (λ (x : Remainder). x.0) e in omega arith); hit = below_path p refl }

-- 5·1 + (p - 1)·(x·1) + 0 is 5 - x
five_less : (x : Remainder) → series modulo 2 errors x ≡ modulo.add (rem 5) (modulo.neg x)
five_less x =
    ap₂ modulo.add (laws.mul_one (rem 5))
    (laws.add_nil _ ∙ ap₂ modulo.mul minus (laws.mul_one x) ∙ R.neg_mul modulo laws (rem 1) x ∙ ap modulo.neg (R.one_mul modulo laws x))
  where
    minus : rem (p - 1) ≡ modulo.neg (rem 1)
    minus = below_path p refl

pub only_5 : (x : Remainder) → Lucky modulo 2 errors x → x ≡ rem 5
only_5 x l = sym (R.sub_same modulo laws (rem 5) x (sym (five_less x) ∙ l.hit))
