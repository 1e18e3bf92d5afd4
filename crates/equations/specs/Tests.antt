-- The tests of the three equations, over the polynomials that stand in an oracle: M, x, wl, wr, wo, r, q, h1, h2.
use Rattle.std.specs.Prelude.{ℕ, ◌+◌, ◌-◌, ◌*◌, Bool, false, ◌&&◌, List, [], slice_index_or}
use Rattle.field.specs.Field.{Ops, power}
use Rattle.algebra.specs.Sums.{sub}
use Rattle.algebra.specs.Polynomials.{value}
use Rattle.oracle.specs.Standing.{after_by}
use Rattle.inner_product.specs.Faults as claim
use Rattle.inner_product.specs.Settling.{settles}

-- E1, tested with the polynomials ps standing
abbrev pub first_test : {K : Type 0} → Ops K → ℕ → List (List K) → K → K → Bool
first_test f n ps α z =
    f.same (value f (slice_index_or ps 0 []) z) (f.add (f.mul (value f (slice_index_or ps 6 []) z) (sub f (power f z (3 * n + 1)) α)) (value f (slice_index_or ps 5 []) z))

-- 1 + y·l + y^(n+1)·r + y^(2n+1)·o
abbrev pub wires_from : {K : Type 0} → Ops K → ℕ → K → K → K → K → K
wires_from f n y l r o =
    f.add (f.add (f.add f.one (f.mul y l)) (f.mul (power f y (n + 1)) r)) (f.mul (power f y (2 * n + 1)) o)

-- a claim's settlement; one that cannot be stated does not hold
abbrev pub settled : {K : Type 0} → Ops K → ℕ → K → K → K → K → K → K → Bool
settled f d c z ya yb yh yh2 = after_by (claim.refusal f d z) false (settles f d c z ya yb yh yh2)

-- E2, a claim with d = 3n
abbrev pub second_test : {K : Type 0} → Ops K → ℕ → List (List K) → K → K → Bool
second_test f n ps α z =
    settled f (3 * n) (value f (slice_index_or ps 1 []) α) z (value f (slice_index_or ps 5 []) z)
    (wires_from f n (f.inv z) (value f (slice_index_or ps 2 []) (f.inv z)) (value f (slice_index_or ps 3 []) (f.inv z)) (value f (slice_index_or ps 4 []) (f.inv z)))
    (value f (slice_index_or ps 7 []) z) (value f (slice_index_or ps 7 []) (f.mul f.gamma z))

-- E3, a claim with d = n - 1
abbrev pub third_test : {K : Type 0} → Ops K → ℕ → List (List K) → K → K → Bool
third_test f n ps β z =
    settled f (n - 1) (value f (slice_index_or ps 4 []) β) z (value f (slice_index_or ps 2 []) (f.mul β z)) (value f (slice_index_or ps 3 []) (f.inv z))
    (value f (slice_index_or ps 8 []) z) (value f (slice_index_or ps 8 []) (f.mul f.gamma z))

-- what judge finds: all three pass
abbrev pub accepts : {K : Type 0} → Ops K → ℕ → List (List K) → K → K → K → Bool
accepts f n ps α β z = first_test f n ps α z && (second_test f n ps α z && third_test f n ps β z)
