-- A prover's reply to a claim, the three equations that it is to meet at a point, and the reply of an honest prover.
use Rattle.std.specs.Prelude.{◌≡◌, ℕ, ◌+◌, ◌-◌, ◌*◌, ◌≤◌, List, length, ◌≢◌}
use Rattle.field.specs.Field.{Ops, power}
use Rattle.algebra.specs.Sums.{sub}
use Rattle.algebra.specs.Polynomials.{coeff, value, Divides, middle}
use Rattle.algebra.specs.Relation.{Claim, width, wires}

-- the polynomials that a prover sends
pub record Reply (K : Type 0) : Type 0 where
  pub r : List K
  pub q : List K
  pub h1 : List K
  pub h2 : List K

-- a claim of m ≥ 1 rows and n ≥ 1 gates: M has m·N entries, x has m, and each wire at most n
pub record Shaped {K : Type 0} (s : Claim K) : Type 0 where
  pub rows : 1 ≤ s.m
  pub gates : 1 ≤ s.n
  pub matrix_long : length s.matrix ≡ s.m * width s
  pub vector_long : length s.vector ≡ s.m
  pub left_long : length s.left ≤ s.n
  pub right_long : length s.right ≤ s.n
  pub out_long : length s.out ≤ s.n

-- a reply within its bounds; that of q is 0 where m is 1
pub record ReplyShaped {K : Type 0} (s : Claim K) (p : Reply K) : Type 0 where
  pub r_long : length p.r ≤ width s
  pub q_long : length p.q ≤ (s.m - 1) * width s
  pub h1_long : length p.h1 ≤ 6 * s.n + 1
  pub h2_long : length p.h2 ≤ 2 * s.n - 1

-- W(y), where W(X) = 1 + X·wl(X) + X^(n+1)·wr(X) + X^(2n+1)·wo(X)
abbrev pub wires_at : {K : Type 0} → Ops K → Claim K → K → K
wires_at f s y =
    f.add (f.add (f.add f.one (f.mul y (value f s.left y))) (f.mul (power f y (s.n + 1)) (value f s.right y)))
    (f.mul (power f y (2 * s.n + 1)) (value f s.out y))

-- γ^d·h(z) - h(γz)
abbrev pub twist : {K : Type 0} → Ops K → ℕ → List K → K → K
twist f d h z = sub f (f.mul (power f f.gamma d) (value f h z)) (value f h (f.mul f.gamma z))

-- E1: f_M(z) = q(z)·(z^N - α) + r(z)
-- E2: γ^(3n)·h1(z) - h1(γz) = z^(3n)·(r(z)·W(1/z) - f_x(α))
-- E3: γ^(n-1)·h2(z) - h2(γz) = z^(n-1)·(wl(βz)·wr(1/z) - wo(β))
pub record Equations {K : Type 0} (f : Ops K) (s : Claim K) (p : Reply K) (α β z : K) : Type 0 where
  pub E1 : value f s.matrix z ≡ f.add (f.mul (value f p.q z) (sub f (power f z (width s)) α)) (value f p.r z)
  pub E2 : twist f (3 * s.n) p.h1 z
      ≡ f.mul (power f z (3 * s.n)) (sub f (f.mul (value f p.r z) (wires_at f s (f.inv z))) (value f s.vector α))
  pub E3 : twist f (s.n - 1) p.h2 z
      ≡ f.mul (power f z (s.n - 1)) (sub f (f.mul (value f s.left (f.mul β z)) (value f s.right (f.inv z))) (value f s.out β))

-- the coefficients of wl(βX)
abbrev pub left_scaled : {K : Type 0} → Ops K → Claim K → K → ℕ → K
left_scaled f s β i = f.mul (power f β i) (coeff f s.left i)

-- h[k] = c[k]/(γ^d - γ^k) for k ≤ 2d other than d, where c is the middle product of a and b; h[d] is free
abbrev pub Solves : {K : Type 0} → Ops K → ℕ → (ℕ → K) → (ℕ → K) → (ℕ → K) → Type 0
Solves f d h a b =
    (k : ℕ) → k ≤ 2 * d → (k ≢ d)
    → h k ≡ f.mul (middle f d a b k) (f.inv (sub f (power f f.gamma d) (power f f.gamma k)))

-- q and r are quotient and remainder of f_M by X^N - α; h1 and h2 come from the middle products
pub record Honest {K : Type 0} (f : Ops K) (s : Claim K) (p : Reply K) (α β : K) : Type 0 where
  pub divided : Divides f s.matrix (width s) α p.q p.r
  pub h1_is : Solves f (3 * s.n) (coeff f p.h1) (coeff f p.r) (wires f s)
  pub h2_is : Solves f (s.n - 1) (coeff f p.h2) (left_scaled f s β) (coeff f s.right)
