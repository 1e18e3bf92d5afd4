-- The claim that is lent as slices, and which sizes and lengths it may have.
use Rattle.std.specs.Prelude.{ℕ, ◌+◌, ◌*◌, Bool, ◌&&◌, List, map, ◌==◌, nat_le}
use Rattle.algebra.specs.Relation.{Claim}
use Rattle.prover.specs.declared.claim.Claim.{Claim as LentClaim}

-- the claim whose entries the values stand for
abbrev pub claimed : {X K : Type 0} → (X → K) → ℕ → ℕ → List X → List X → List X → List X → List X → Claim K
claimed mean m n matrix vector left right out = record {
  m = m;
  n = n;
  matrix = map mean matrix;
  vector = map mean vector;
  left = map mean left;
  right = map mean right;
  out = map mean out;
}

-- the claim that lent values stand for
abbrev pub claim_of : {X K : Type 0} → (X → K) → LentClaim X → Claim K
claim_of mean c =
    claimed mean c.statement.m c.statement.n c.statement.matrix.now c.statement.vector.now c.wires.left.now c.wires.right.now c.wires.out.now

-- m is 1 to 64, n is 1 to 85, and 6n is not above the field's span
abbrev pub in_range : ℕ → ℕ → ℕ → Bool
in_range span m n = nat_le 1 m && (nat_le m 64 && (nat_le 1 n && (nat_le n 85 && nat_le (6 * n) span)))

-- m rows of 3n + 1 entries, m entries of x, n of each wire: by the five lengths
abbrev pub in_shape : ℕ → ℕ → ℕ → ℕ → ℕ → ℕ → ℕ → Bool
in_shape m n matrix vector left right out =
    (matrix == m * (3 * n + 1)) && (vector == m && (left == n && (right == n && out == n)))

-- m rows of 3n + 1 entries, n of each wire: by these four lengths
abbrev pub all_but_vector : ℕ → ℕ → ℕ → ℕ → ℕ → ℕ → Bool
all_but_vector m n matrix left right out = (matrix == m * (3 * n + 1)) && (left == n && (right == n && out == n))
