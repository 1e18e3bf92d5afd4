-- What a dense oracle means.
use Rattle.std.specs.Prelude.{ℕ, min, List, [], map, length}
use Rattle.oracle.specs.Store.{lists_of}
use Rattle.oracle.specs.Standing.{Standing}
use Rattle.dense_oracle.specs.declared.store.DenseOracle.{DenseOracle}

-- the values of the polynomials that stand
abbrev pub held : {X : Type 0} → DenseOracle X → List (List X)
held s = map (λ p. p.items) (lists_of s.store)

-- the polynomials by what their values mean, the cells in all, and the rule: a list needs a cell for each coefficient
abbrev pub dense_stand : {X K : Type 0} → DenseOracle X → (X → K) → Standing K
dense_stand s mean = record { lists = map (map mean) (held s); cells = s.cells; rule = length }

-- what a new oracle means: no polynomial, the cells asked for or 2^32 - 1 if they are fewer, and the rule
abbrev pub fresh : {K : Type 0} → ℕ → Standing K
fresh cells = record { lists = []; cells = min cells 4294967295; rule = length }
