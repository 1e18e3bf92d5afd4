-- What each fault tells.
use Rattle.std.specs.Prelude.{ℕ, List, [], ◌∷◌, codes}
use Rattle.claim_file.specs.declared.ReadFault.{ReadFault}
use Rattle.claim_file.specs.declared.ReadFault.TheVariants.{UnexpectedWord, TooLarge, Unfinished, NoMemory}

-- a fault as it is told: its number, and the values beside it
abbrev pub Told : Type 0
Told = ℕ × List ℕ

-- 71: a word that is not the one due there; 72: a number that is not below its bound; 73: the text ends too early; 74: want of memory
abbrev pub told : ReadFault → Told
told (UnexpectedWord line) = (71, line ∷ [])
told (TooLarge line) = (72, line ∷ [])
told (Unfinished line) = (73, line ∷ [])
told NoMemory = (74, [])

-- a fault in words
abbrev pub fault_text : ReadFault → List ℕ
fault_text (UnexpectedWord line) = codes "this word is not the one that is due here"
fault_text (TooLarge line) = codes "this number is too large"
fault_text (Unfinished line) = codes "the file ends before its last section"
fault_text NoMemory = codes "no memory is left"
