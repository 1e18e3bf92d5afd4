-- What the parts of a claim file say, one after another.
use Rattle.std.proofs.Common.{◌≡◌, ℕ, true, false, List, [], ◌∷◌, ◌++◌, None, Some, Ok, Err, Option, Result, sym, refl, ap, ◌∙◌, subst, MatchResult, IsErrAnd}
use Rattle.std.proofs.lemmas.List.{append_assoc, append-nil}
use Rattle.std.proofs.lemmas.Bool.{false≢true}
use Rattle.claim_file.specs.declared.ReadFault.{ReadFault}
use Rattle.claim_file.specs.declared.ReadFault.TheVariants.{UnexpectedWord, TooLarge, Unfinished, NoMemory}
use Rattle.claim_file.specs.declared.words.Keyword.{Keyword}
use Rattle.claim_file.specs.declared.words.Words.{Words}
use Rattle.claim_file.specs.declared.ClaimFile.{ClaimFile}
use Rattle.claim_file.specs.Lexical.{Located, last_line, words}
use Rattle.claim_file.specs.State.{text_of, ahead}
use Rattle.claim_file.specs.Faults.{Told, told}
use Rattle.claim_file.specs.Grammar.{Claim, Said, and_then, value_of, in_front, with_rest, numbers_until, numbers_to_end, numbers, ends, claim_said, read_spec}
use Rattle.claim_file.specs.Answer.{meaning, Refuses, Tells, Reads}

-- a fault of a part is the fault of the whole
broken : {A B : Type 0} (f : ReadFault) (said : Said A) (next : A → List Located → Result B Told) → Refuses f said → Refuses f (and_then said next)
broken (UnexpectedWord line) said next e = rw e
broken (TooLarge line) said next e = rw e
broken (Unfinished line) said next e = rw e
broken NoMemory said next e = tt

pub refused_by : {A : Type 0} (f : ReadFault) (said : Result A Told) → said ≡ Err (told f) → Refuses f said
refused_by (UnexpectedWord line) said e = e
refused_by (TooLarge line) said e = e
refused_by (Unfinished line) said e = e
refused_by NoMemory said e = tt

-- one number is said as it is read
pub valued : (s : Words) (r : Result ℕ ReadFault) (v : Result ℕ Told) → MatchResult r (λ x. v ≡ Ok x) (λ f. v ≡ Err (told f)) → Reads (λ (x : ℕ). x) s r s (λ _ ws. with_rest ws v)
valued s (Ok x) v h = record { tells = rw h; kept = refl }
valued s (Err f) v h = record { tells = refused_by f _ (rw h); kept = refl }

-- the exit of a `?`
pub passed_on : {X A : Type 0} {mean : X → A} {s : Words} {f : ReadFault} {s' : Words} {part : ℕ → List Located → Said A} (r : Result X ReadFault) → IsErrAnd r (λ e. e ≡ f) → Reads mean s (Err f) s' part → Reads mean s r s' part
passed_on (Ok x) p h = absurd p
passed_on (Err e) p h = rw p h

-- an answer is what a part says from state s on
pub record Says {Y B : Type 0} (of : Y → B) (s : Words) (r : Result Y ReadFault) (part : ℕ → List Located → Result B Told) : Type 0 where
  pub says : Tells of r (part (last_line 1 (text_of s)) (ahead s))

module _ {X A : Type 0} {mean : X → A} {s₀ s₁ : Words} {part : ℕ → List Located → Said A} where
  -- a part of the reader, and then what depends on it: the last line stays
  pub then_ok : {Y B : Type 0} {of : Y → B} {x : X} {r : Result Y ReadFault} (next : ℕ → A → List Located → Result B Told) → Reads mean s₀ (Ok x) s₁ part → Says of s₁ r (λ last. next last (mean x)) → Says of s₀ r (λ last ws. and_then (part last ws) (next last))
  then_ok {Y} {B} {of} {x} {r} next h g = record {
    says = rw h.tells (subst (λ (t : List ℕ). Tells of r (next (last_line 1 t) (mean x) (ahead s₁))) h.kept g.says);
  }

  pub then_err : {Y B : Type 0} (of : Y → B) {f : ReadFault} (next : ℕ → A → List Located → Result B Told) → Reads mean s₀ (Err f) s₁ part → Says of s₀ (Err f) (λ last ws. and_then (part last ws) (next last))
  then_err of {f} next h = record { says = broken f _ _ h.tells }

  -- the same, where what depends on it is a part too
  pub and_ok : {Y B : Type 0} {of : Y → B} {x : X} {r : Result Y ReadFault} {s₂ : Words} (next : ℕ → A → List Located → Said B) → Reads mean s₀ (Ok x) s₁ part → Reads of s₁ r s₂ (λ last. next last (mean x)) → Reads of s₀ r s₂ (λ last ws. and_then (part last ws) (next last))
  and_ok next h g = record { tells = (then_ok next h (record { says = g.tells })).says; kept = g.kept ∙ h.kept }

  pub and_err : {Y B : Type 0} (of : Y → B) {f : ReadFault} (next : ℕ → A → List Located → Said B) → Reads mean s₀ (Err f) s₁ part → Reads of s₀ (Err f) s₁ (λ last ws. and_then (part last ws) (next last))
  and_err of {f} next h = record { tells = broken f _ _ h.tells; kept = h.kept }

-- numbers that have come, in front of those to come
abbrev pub prefixed : List ℕ → Said (List ℕ) → Said (List ℕ)
prefixed xs (Ok p) = Ok (xs ++ p.0, p.1)
prefixed xs (Err t) = Err t

prefixed_more : (xs : List ℕ) (v : ℕ) (said : Said (List ℕ)) → prefixed (xs ++ v ∷ []) said ≡ prefixed xs (in_front (Ok v) said)
prefixed_more xs v (Ok p) = ap (λ l. Ok (l, p.1)) (append_assoc xs (v ∷ []) p.0)
prefixed_more xs v (Err t) = refl

module _ (last bound : ℕ) where
  pub numbers_end : (end : Option Keyword) (xs : List ℕ) (ws : List Located) (w : Located) (rest : List Located) → ws ≡ w ∷ rest → true ≡ ends end w → prefixed xs (numbers last bound end ws) ≡ Ok (xs, rest)
  unfolding numbers_until
  numbers_end None xs ws w rest e k = absurd (false≢true (sym k))
  numbers_end (Some key) xs ws w rest e k = rw (e, ← k) (ap (λ l. Ok (l, rest)) (append-nil xs))

  pub numbers_bad : (end : Option Keyword) (xs : List ℕ) (ws : List Located) (w : Located) (rest : List Located) (t : Told) → ws ≡ w ∷ rest → false ≡ ends end w → value_of bound w ≡ Err t → prefixed xs (numbers last bound end ws) ≡ Err t
  unfolding numbers_until numbers_to_end
  numbers_bad None xs ws w rest t e k v = rw (e, v)
  numbers_bad (Some key) xs ws w rest t e k v = rw (e, ← k, v)

  pub numbers_more : (end : Option Keyword) (xs : List ℕ) (ws : List Located) (w : Located) (rest : List Located) (v : ℕ) → ws ≡ w ∷ rest → false ≡ ends end w → value_of bound w ≡ Ok v → prefixed (xs ++ v ∷ []) (numbers last bound end rest) ≡ prefixed xs (numbers last bound end ws)
  unfolding numbers_until numbers_to_end
  numbers_more None xs ws w rest v e k h = rw (e, h) (prefixed_more xs v (numbers_to_end bound rest))
  numbers_more (Some key) xs ws w rest v e k h = rw (e, ← k, h) (prefixed_more xs v (numbers_until last bound key rest))

  pub numbers_unfinished : (key : Keyword) (xs : List ℕ) (ws : List Located) → ws ≡ [] → prefixed xs (numbers last bound (Some key) ws) ≡ Err (told (Unfinished last))
  unfolding numbers_until
  numbers_unfinished key xs ws e = rw e

pub numbers_all : (bound : ℕ) (xs : List ℕ) (ws : List Located) → ws ≡ [] → prefixed xs (numbers_to_end bound ws) ≡ Ok (xs, [])
unfolding numbers_to_end
numbers_all bound xs ws e = rw e (ap (λ l. Ok (l, [])) (append-nil xs))

-- what the words of a text say is what the text says
whole_text : {Y : Type 0} (of : Y → Claim) (r : Result Y ReadFault) (text : List ℕ) (s : Words) → text_of s ≡ text → ahead s ≡ words text → Says of s r claim_said → Tells of r (read_spec text)
unfolding read_spec
whole_text of r text s kept all h = rw (← all, ← kept) h.says

pub whole_claim : {claim : Claim} (text : List ℕ) (s : Words) → text_of s ≡ text → ahead s ≡ words text → Says (λ (c : Claim). c) s (Ok claim) claim_said → read_spec text ≡ Ok claim
whole_claim {claim} text s kept all h = whole_text (λ c. c) (Ok claim) text s kept all h

pub whole_fault : {f : ReadFault} (r : Result ClaimFile ReadFault) (text : List ℕ) (s : Words) → text_of s ≡ text → ahead s ≡ words text → IsErrAnd r (λ e. e ≡ f) → Says meaning s (Err f) claim_said → Tells meaning r (read_spec text)
whole_fault (Ok x) text s kept all p h = absurd p
whole_fault (Err e) text s kept all p h = rw p (whole_text meaning _ text s kept all h)
