-- Sums of field elements over an index, and differences.
use Rattle.std.specs.Prelude.{ℕ, zero, suc}
use Rattle.field.specs.Field.{Ops}

-- c 0 + c 1 + .. + c (n - 1)
abbrev pub sum : {K : Type 0} → Ops K → ℕ → (ℕ → K) → K
sum f zero c = f.nil
sum f (suc n) c = f.add (c 0) (sum f n (λ i. c (suc i)))

-- a - b
abbrev pub sub : {K : Type 0} → Ops K → K → K → K
sub f a b = f.add a (f.neg b)
