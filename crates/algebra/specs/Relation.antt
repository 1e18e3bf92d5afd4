-- The Hadamard product relation: x = M·(1, wl, wr, wo) and wl∘wr = wo.
use Rattle.std.specs.Prelude.{◌≡◌, ℕ, zero, suc, ◌+◌, ◌*◌, ◌<◌, List}
use Rattle.field.specs.Field.{Ops}
use Rattle.algebra.specs.Sums.{sum, sub}
use Rattle.algebra.specs.Polynomials.{coeff}

-- a statement (m, n, M row by row, x) with the wires wl, wr, wo that show it
pub record Claim (K : Type 0) : Type 0 where
  pub m : ℕ
  pub n : ℕ
  pub matrix : List K
  pub vector : List K
  pub left : List K
  pub right : List K
  pub out : List K

-- N = 3n + 1, the entries of a row
abbrev pub width : {K : Type 0} → Claim K → ℕ
width s = 3 * s.n + 1

-- the first n of a, then b
abbrev pub join : {K : Type 0} → ℕ → (ℕ → K) → (ℕ → K) → ℕ → K
join zero a b i = b i
join (suc n) a b zero = a 0
join (suc n) a b (suc i) = join n (λ k. a (suc k)) b i

-- the vector (1, wl, wr, wo), a wire shorter than n filled with zeros to n; no claim that is looked at has a longer one
abbrev pub wires : {K : Type 0} → Ops K → Claim K → ℕ → K
wires f s = join 1 (λ _. f.one) (join s.n (coeff f s.left) (join s.n (coeff f s.right) (coeff f s.out)))

-- entry i of M·(1, wl, wr, wo)
abbrev pub row : {K : Type 0} → Ops K → Claim K → ℕ → K
row f s i = sum f (width s) (λ j. f.mul (coeff f s.matrix (i * width s + j)) (wires f s j))

-- e[i]: x[i] less entry i of M·(1, wl, wr, wo)
abbrev pub row_error : {K : Type 0} → Ops K → Claim K → ℕ → K
row_error f s i = sub f (coeff f s.vector i) (row f s i)

-- g[i]: wl[i]·wr[i] - wo[i]
abbrev pub gate_error : {K : Type 0} → Ops K → Claim K → ℕ → K
gate_error f s i = sub f (f.mul (coeff f s.left i) (coeff f s.right i)) (coeff f s.out i)

-- the first n of c are zero
abbrev pub ZeroBelow : {K : Type 0} → Ops K → ℕ → (ℕ → K) → Type 0
ZeroBelow f n c = (i : ℕ) → i < n → c i ≡ f.nil

-- the claim is true: every e[i] and every g[i] is zero
pub record Holds {K : Type 0} (f : Ops K) (s : Claim K) : Type 0 where
  pub rows_hold : ZeroBelow f s.m (row_error f s)
  pub gates_hold : ZeroBelow f s.n (gate_error f s)
