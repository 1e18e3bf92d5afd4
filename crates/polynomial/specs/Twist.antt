-- The polynomial h with γ^d·h(X) - h(γX) = c(X) up to its coefficient at d, which is free.
use Rattle.std.specs.Prelude.{◌≡◌, ℕ, ◌+◌, ◌*◌, ◌≤◌, cond, List, map, ◌==◌}
use Rattle.std.specs.List.{range_with_len}
use Rattle.field.specs.Field.{Ops, power}
use Rattle.algebra.specs.Sums.{sub}
use Rattle.algebra.specs.Polynomials.{coeff}

-- a list of c entries is one of 2d + 1, and 2d is not above the field's span
pub record TwistFits (span d c : ℕ) : Type 0 where
  pub long : c ≡ 2 * d + 1
  pub near : 2 * d ≤ span

-- y/(γ^d - γ^k) for k other than d, and v for d
abbrev pub untwisted : {K : Type 0} → Ops K → ℕ → K → K → ℕ → K
untwisted f d v y k = cond (k == d) v (f.mul y (f.inv (sub f (power f f.gamma d) (power f f.gamma k))))

-- the entry c[k]/(γ^d - γ^k) for every k ≤ 2d other than d, and v for d
abbrev pub solved : {K : Type 0} → Ops K → ℕ → K → List K → List K
solved f d v c = map (λ k. untwisted f d v (coeff f c k) k) (range_with_len 0 (2 * d + 1))
