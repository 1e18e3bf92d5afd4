-- What a sparse oracle means.
use Rattle.std.specs.Prelude.{ℕ, ◌+◌, min, List, []}
use Rattle.field.specs.Field.{Ops}
use Rattle.oracle.specs.Store.{lists_of}
use Rattle.oracle.specs.Standing.{Standing, needed}
use Rattle.sparse_oracle.specs.declared.store.SparseOracle.{SparseOracle}
use Rattle.sparse_oracle.specs.Terms.{nonzero, spreads}

-- the polynomials that stand
abbrev pub listed : {X K : Type 0} → SparseOracle X → Ops K → (X → K) → List (List K)
listed s f mean = spreads f mean (lists_of s.store)

-- the polynomials, the cells in all, spare ones and those that the polynomials need, and the rule: a list needs a cell for each coefficient other than zero
abbrev pub sparse_stand : {X K : Type 0} → SparseOracle X → Ops K → (X → K) → Standing K
sparse_stand s f mean = record { lists = listed s f mean; cells = s.spare + needed (nonzero f) (listed s f mean); rule = nonzero f }

-- what a new oracle means: no polynomial, the cells asked for or 2^32 - 1 if they are fewer, and the rule
abbrev pub fresh : {K : Type 0} → Ops K → ℕ → Standing K
fresh f cells = record { lists = []; cells = min cells 4294967295; rule = nonzero f }
