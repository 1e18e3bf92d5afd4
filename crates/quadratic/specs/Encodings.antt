-- The claim of the Hadamard product relation that a signature of a system becomes.
use Rattle.std.specs.Prelude.{ℕ, ◌+◌, ◌-◌, ◌*◌, ◌/◌, ◌%◌, cond, List, ◌++◌, map, length, replicate, nat_lt}
use Rattle.std.specs.List.{range_with_len}
use Rattle.field.specs.Field.{Ops}
use Rattle.algebra.specs.Sums.{sum}
use Rattle.algebra.specs.Polynomials.{coeff, monomial}
use Rattle.algebra.specs.Relation.{Claim, Holds}
use Rattle.quadratic.specs.Systems.{System, gates, term, product, Solves}
use Rattle.quadratic.specs.Positions.{name_at, first}

-- row k of an equation, at column j: c[k][0] at column 0, each c[k][1 + i] at 1 + first(i), each c[k][1 + v + g] at 1 + 2n + g
abbrev pub equation_cell : {K : Type 0} → Ops K → System K → ℕ → ℕ → K
equation_cell f s k j =
    f.add (monomial f (term f s k 0) 0 j)
    (f.add (sum f s.variables (λ i. monomial f (term f s k (1 + i)) (1 + first s.pairs i) j))
    (sum f (gates s) (λ g. monomial f (term f s k (1 + s.variables + g)) (1 + 2 * gates s + g) j)))

-- the row that ties position p to the first position of its variable, at column j: 1 at 1 + p, and -1 at 1 + that position
abbrev pub tie_cell : {K : Type 0} → Ops K → List (ℕ × ℕ) → ℕ → ℕ → K
tie_cell f pairs p j = f.add (monomial f f.one (1 + p) j) (monomial f (f.neg f.one) (1 + first pairs (name_at pairs p)) j)

-- the matrix at row i and column j: a row for each of e equations, then a row for each position
abbrev pub cell : {K : Type 0} → Ops K → System K → ℕ → ℕ → ℕ → K
cell f s e i j = cond (nat_lt i e) (equation_cell f s i j) (tie_cell f s.pairs (i - e) j)

-- the matrix of e + 2n rows and 3n + 1 columns, row by row
abbrev pub matrix_of : {K : Type 0} → Ops K → System K → ℕ → List K
matrix_of f s e =
    let width = 3 * gates s + 1 in
    map (λ q. cell f s e (q / width) (q % width)) (range_with_len 0 ((e + 2 * gates s) * width))

-- the value of the signature at position p
abbrev pub carried : {K : Type 0} → Ops K → List (ℕ × ℕ) → List K → ℕ → K
carried f pairs signature p = coeff f signature (name_at pairs p)

-- the claim: a gate for each pair, the signature's values on the wires, and the digest y before 2n zeros
abbrev pub encoded : {K : Type 0} → Ops K → System K → List K → List K → Claim K
encoded f s signature y = record {
  m = length y + 2 * gates s;
  n = gates s;
  matrix = matrix_of f s (length y);
  vector = y ++ replicate (2 * gates s) f.nil;
  left = map (carried f s.pairs signature) (range_with_len 0 (gates s));
  right = map (carried f s.pairs signature) (range_with_len (gates s) (gates s));
  out = map (product f s.pairs signature) (range_with_len 0 (gates s));
}

-- the claim is true exactly if the signature solves the system
abbrev pub Faithful : {K : Type 0} → Ops K → System K → List K → List K → Claim K → Type 0
Faithful f s signature y claim = (Holds f claim → Solves f s signature y) × (Solves f s signature y → Holds f claim)
