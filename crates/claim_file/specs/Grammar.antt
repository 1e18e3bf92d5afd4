-- What the words of a claim file say.
use Rattle.std.specs.Prelude.{ℕ, ◌^◌, Bool, false, cond, List, [], ◌∷◌, Some, None, Ok, Err, codes, Option, Result, nat_lt}
use Rattle.std.specs.Str.{bytes_eq}
use Rattle.claim_file.specs.declared.FieldName.{FieldName}
use Rattle.claim_file.specs.declared.FieldName.TheVariants.{Mersenne31, Gf256}
use Rattle.claim_file.specs.declared.ReadFault.TheVariants.{UnexpectedWord, TooLarge, Unfinished}
use Rattle.claim_file.specs.declared.Heading.{Heading}
use Rattle.claim_file.specs.declared.words.Keyword.{Keyword}
use Rattle.claim_file.specs.declared.words.Keyword.TheVariants.{Field, M, N, Matrix, Vector, Left, Right, Out}
use Rattle.claim_file.specs.Lexical.{Located, words, last_line}
use Rattle.claim_file.specs.Numbers.{number_of}
use Rattle.claim_file.specs.Faults.{Told, told}

-- a claim as a text says it
pub record Claim : Type 0 where
  pub field : FieldName
  pub m : ℕ
  pub n : ℕ
  pub matrix : List ℕ
  pub vector : List ℕ
  pub left : List ℕ
  pub right : List ℕ
  pub out : List ℕ

-- what a part of the words says, with the words after it, or the first fault
abbrev pub Said : Type 0 → Type 0
Said A = Result (A × List Located) Told

-- a part, and then what depends on it
abbrev pub and_then : {A B : Type 0} → Said A → (A → List Located → Result B Told) → Result B Told
and_then (Ok p) next = next p.0 p.1
and_then (Err t) next = Err t

-- the elements of a field are the numbers below this
abbrev pub order : FieldName → ℕ
order Mersenne31 = 2147483647
order Gf256 = 256

-- a number that is an element of a field, where there is one
abbrev pub element_of : FieldName → Option ℕ → Option ℕ
element_of name None = None
element_of name (Some v) = cond (nat_lt v (order name)) (Some v) None

-- how a keyword is spelled
abbrev pub letters : Keyword → List ℕ
letters Field = codes "field"
letters M = codes "m"
letters N = codes "n"
letters Matrix = codes "matrix"
letters Vector = codes "vector"
letters Left = codes "left"
letters Right = codes "right"
letters Out = codes "out"

-- a word is the keyword
abbrev pub is_key : Located → Keyword → Bool
is_key w key = bytes_eq w.spelling (letters key)

-- the number that a word of a line spells: it must spell one, and that below the bound
abbrev pub bounded : ℕ → ℕ → Option ℕ → Result ℕ Told
bounded bound line None = Err (told (UnexpectedWord line))
bounded bound line (Some v) = cond (nat_lt v bound) (Ok v) (Err (told (TooLarge line)))

-- what a word says where a number below the bound is due
abbrev pub value_of : ℕ → Located → Result ℕ Told
value_of bound w = bounded bound w.line (number_of w.spelling)

-- a number in front of others
abbrev pub in_front : Result ℕ Told → Said (List ℕ) → Said (List ℕ)
in_front (Ok v) (Ok p) = Ok (v ∷ p.0, p.1)
in_front (Ok v) (Err t) = Err t
in_front (Err t) said = Err t

-- the next word; `last` is the last line of the text
unfoldable pub next_word : ℕ → List Located → Said Located
next_word last [] = Err (told (Unfinished last))
next_word last (w ∷ ws) = Ok (w, ws)

-- a keyword
unfoldable pub keyword : ℕ → Keyword → List Located → Said (Unit {0})
keyword last key ws = and_then (next_word last ws) (λ w ws. cond (is_key w key) (Ok (tt, ws)) (Err (told (UnexpectedWord w.line))))

-- the name of a field
unfoldable pub field_name : ℕ → List Located → Said FieldName
field_name last ws =
    and_then (next_word last ws)
    (λ w ws.
    cond (bytes_eq w.spelling (codes "mersenne31")) (Ok (Mersenne31, ws))
    (cond (bytes_eq w.spelling (codes "gf256")) (Ok (Gf256, ws)) (Err (told (UnexpectedWord w.line)))))

-- a number with the words after it
abbrev pub with_rest : List Located → Result ℕ Told → Said ℕ
with_rest ws (Ok v) = Ok (v, ws)
with_rest ws (Err t) = Err t

-- a keyword and one number below 2 ^ 32
unfoldable pub number_after : ℕ → Keyword → List Located → Said ℕ
number_after last key ws =
    and_then (keyword last key ws) (λ _ ws. and_then (next_word last ws) (λ w ws. with_rest ws (value_of (2 ^ 32) w)))

-- the numbers below the bound up to the keyword, which is taken too
unfoldable pub numbers_until : ℕ → ℕ → Keyword → List Located → Said (List ℕ)
numbers_until last bound key [] = Err (told (Unfinished last))
numbers_until last bound key (w ∷ ws) = cond (is_key w key) (Ok ([], ws)) (in_front (value_of bound w) (numbers_until last bound key ws))

-- the numbers below the bound up to the end
unfoldable pub numbers_to_end : ℕ → List Located → Said (List ℕ)
numbers_to_end bound [] = Ok ([], [])
numbers_to_end bound (w ∷ ws) = in_front (value_of bound w) (numbers_to_end bound ws)

-- the numbers below the bound up to the keyword, or with none up to the end
abbrev pub numbers : ℕ → ℕ → Option Keyword → List Located → Said (List ℕ)
numbers last bound (Some key) ws = numbers_until last bound key ws
numbers last bound None ws = numbers_to_end bound ws

-- whether such a list ends with a word
abbrev pub ends : Option Keyword → Located → Bool
ends (Some key) w = is_key w key
ends None w = false

-- field NAME m NUMBER n NUMBER matrix
unfoldable pub heading : ℕ → List Located → Said Heading
heading last ws =
    and_then (keyword last Field ws) (λ _ ws.
    and_then (field_name last ws) (λ field ws.
    and_then (number_after last M ws) (λ m ws.
    and_then (number_after last N ws) (λ n ws.
    and_then (keyword last Matrix ws) (λ _ ws. Ok (record { field = field; m = m; n = n }, ws))))))

-- a heading, and five lists of elements of the field, with a keyword before each
unfoldable pub claim_said : ℕ → List Located → Result Claim Told
claim_said last ws =
    and_then (heading last ws) (λ head ws.
    and_then (numbers_until last (order head.field) Vector ws) (λ matrix ws.
    and_then (numbers_until last (order head.field) Left ws) (λ vector ws.
    and_then (numbers_until last (order head.field) Right ws) (λ left ws.
    and_then (numbers_until last (order head.field) Out ws) (λ right ws.
    and_then (numbers_to_end (order head.field) ws) (λ out _.
    Ok (record {
      field = head.field;
      m = head.m;
      n = head.n;
      matrix = matrix;
      vector = vector;
      left = left;
      right = right;
      out = out;
    })))))))

-- what a text says: a claim, or the first fault
unfoldable pub read_spec : List ℕ → Result Claim Told
read_spec text = claim_said (last_line 1 text) (words text)
