-- A text that says a given claim.
use Rattle.std.specs.Prelude.{◌≡◌, ℕ, ◌^◌, ◌<◌, List, [], ◌∷◌, ◌++◌, Ok, codes, decimal}
use Rattle.claim_file.specs.declared.FieldName.{FieldName}
use Rattle.claim_file.specs.declared.FieldName.TheVariants.{Mersenne31, Gf256}
use Rattle.claim_file.specs.declared.words.Keyword.{Keyword}
use Rattle.claim_file.specs.declared.words.Keyword.TheVariants.{Field, M, N, Matrix, Vector, Left, Right, Out}
use Rattle.claim_file.specs.Grammar.{Claim, order, letters, read_spec}

-- numbers in decimal, with a blank before each
abbrev pub listed : List ℕ → List ℕ
listed [] = []
listed (v ∷ vs) = 32 ∷ (decimal v ++ listed vs)

-- the name of a field
abbrev pub name_of : FieldName → List ℕ
name_of Mersenne31 = codes "mersenne31"
name_of Gf256 = codes "gf256"

-- a line that begins with a keyword, and the text after it
abbrev pub line_with : Keyword → List ℕ → List ℕ → List ℕ
line_with key body rest = letters key ++ (body ++ 10 ∷ rest)

-- a claim as a text of eight lines
unfoldable pub written : Claim → List ℕ
written c =
    line_with Field (32 ∷ name_of c.field)
    (line_with M (listed (c.m ∷ []))
    (line_with N (listed (c.n ∷ []))
    (line_with Matrix (listed c.matrix)
    (line_with Vector (listed c.vector)
    (line_with Left (listed c.left)
    (line_with Right (listed c.right)
    (line_with Out (listed c.out) [])))))))

-- each number is below the bound
abbrev pub BelowAll : ℕ → List ℕ → Type 0
BelowAll bound [] = Unit {0}
BelowAll bound (v ∷ vs) = (v < bound) × BelowAll bound vs

-- a claim that a file can say: m and n are below 2 ^ 32, and the lists hold elements of the field
pub record Sayable (c : Claim) : Type 0 where
  pub m_fits : c.m < 2 ^ 32
  pub n_fits : c.n < 2 ^ 32
  pub matrix_fits : BelowAll (order c.field) c.matrix
  pub vector_fits : BelowAll (order c.field) c.vector
  pub left_fits : BelowAll (order c.field) c.left
  pub right_fits : BelowAll (order c.field) c.right
  pub out_fits : BelowAll (order c.field) c.out

-- each such claim, written, is read back
abbrev pub ReadsBack : Type 0
ReadsBack = (c : Claim) → Sayable c → read_spec (written c) ≡ Ok c
