-- What a reader of words has ahead of it: for the contracts of the functions below `read`.
use Rattle.std.specs.Prelude.{◌≡◌, ℕ, ◌<◌, Bool, false, ◌||◌, List, [], ◌∷◌, length, Some, None, Option, ◌==◌, slice_index}
use Rattle.claim_file.specs.declared.words.Word.{Word}
use Rattle.claim_file.specs.declared.words.Words.{Words}
use Rattle.claim_file.specs.Lexical.{Located, blank, bare, words_after}

-- the whole text
abbrev pub text_of : Words → List ℕ
text_of s = s.text.now

-- the words that are still to come, where no word has begun
unfoldable pub ahead : Words → List Located
ahead s = words_after s.line [] (bare false s.rest.now)

-- a byte that belongs to no word
abbrev pub apart : ℕ → Bool
apart b = blank b || b == 35

-- no word is lost; a word or the end of the text is next
pub record Passed (s s' : Words) : Type 0 where
  pub kept : text_of s' ≡ text_of s
  pub same : ahead s' ≡ ahead s
  pub word_next : 0 < length s'.rest.now → apart (slice_index s'.rest.now 0) ≡ false

-- a word with its line
abbrev pub located : Word → Located
located w = record { spelling = w.bytes.now; line = w.line }

-- the next word is taken, if there is one
abbrev pub Taken : Words → Option Word → Words → Type 0
Taken s None s' = (text_of s' ≡ text_of s) × (ahead s ≡ []) × (ahead s' ≡ [])
Taken s (Some w) s' = (text_of s' ≡ text_of s) × (ahead s ≡ located w ∷ ahead s')
