-- The answers of the reader against what the text says.
use Rattle.std.specs.Prelude.{◌≡◌, ℕ, List, Ok, Err, vec_items, Result}
use Rattle.claim_file.specs.declared.ClaimFile.{ClaimFile}
use Rattle.claim_file.specs.declared.ReadFault.{ReadFault}
use Rattle.claim_file.specs.declared.ReadFault.TheVariants.{UnexpectedWord, TooLarge, Unfinished, NoMemory}
use Rattle.claim_file.specs.declared.words.Words.{Words}
use Rattle.claim_file.specs.Lexical.{Located, last_line}
use Rattle.claim_file.specs.State.{text_of, ahead}
use Rattle.claim_file.specs.Faults.{Told, told}
use Rattle.claim_file.specs.Grammar.{Claim, Said}

-- the claim that an answer holds
abbrev pub meaning : ClaimFile → Claim
meaning c = record {
  field = c.field;
  m = c.m;
  n = c.n;
  matrix = vec_items c.matrix;
  vector = vec_items c.vector;
  left = vec_items c.left;
  right = vec_items c.right;
  out = vec_items c.out;
}

-- a fault is the one that is said; where memory was wanting, nothing more is known
abbrev pub Refuses : {A : Type 0} → ReadFault → Result A Told → Type 0
Refuses (UnexpectedWord line) said = said ≡ Err (told (UnexpectedWord line))
Refuses (TooLarge line) said = said ≡ Err (told (TooLarge line))
Refuses (Unfinished line) said = said ≡ Err (told (Unfinished line))
Refuses NoMemory said = Unit {0}

-- an answer is what is said
abbrev pub Tells : {X A : Type 0} → (X → A) → Result X ReadFault → Result A Told → Type 0
Tells mean (Ok x) said = said ≡ Ok (mean x)
Tells mean (Err f) said = Refuses f said

-- a part of the reader, from state s to s', answers what that part of the words says
pub record Reads {X A : Type 0} (mean : X → A) (s : Words) (r : Result X ReadFault) (s' : Words) (part : ℕ → List Located → Said A) : Type 0 where
  pub tells : Tells (λ (x : X). (mean x, ahead s')) r (part (last_line 1 (text_of s)) (ahead s))
  pub kept : text_of s' ≡ text_of s
