-- How the words of a text come byte by byte.
use Rattle.std.proofs.Common.{◌≡◌, ℕ, ◌+◌, ◌<◌, Bool, true, false, cond, ◌||◌, eqb, List, [], ◌∷◌, ◌++◌, length, get_or, take, drop, sym, refl, ap, ◌∙◌, ⊎_elim, append_assoc, append-nil, arith}
use Rattle.std.specs.List.{filter, position_or_len}
use Rattle.std.proofs.lemmas.List.{length-append}
use Rattle.std.proofs.Math.Numerals.{one-add}
use Rattle.std.proofs.lemmas.Bool.{cases_Bool}
use Rattle.std.proofs.lemmas.Bool.Decides.{nat_tests}
use Rattle.claim_file.specs.Lexical.{next_line, last_line, bare, ended, words_after}
use Rattle.claim_file.specs.State.{apart}

-- a byte of a word
pub on_word : (n : ℕ) (w : List ℕ) (b : ℕ) (bs : List ℕ) → apart b ≡ false → words_after n w (bare false (b ∷ bs)) ≡ words_after n (w ++ b ∷ []) (bare false bs)
unfolding bare words_after
on_word n w b bs e = grind (arith, nat_tests)

-- what is left of a comment ends a word
in_comment : (n : ℕ) (w bs : List ℕ) → words_after n w (bare true bs) ≡ ended n w ++ words_after n [] (bare true bs)
unfolding bare words_after
in_comment n w [] = sym (append-nil (ended n w))
in_comment n w (b ∷ bs) = let more = in_comment n w bs in grind (arith, nat_tests)

-- the end of a word
pub word_done : (n : ℕ) (w bs : List ℕ) → (0 < length bs → apart (get_or bs 0 0) ≡ true) → words_after n w (bare false bs) ≡ ended n w ++ words_after n [] (bare false bs)
unfolding bare words_after
word_done n w [] h = sym (append-nil (ended n w))
word_done n w (b ∷ bs) h =
    let first : apart b ≡ true = h (omega arith) in
    let more = in_comment n w bs in
    grind (arith, nat_tests)

pub ended_some : (n : ℕ) (w : List ℕ) → 0 < length w → ended n w ≡ record { spelling = w; line = n } ∷ []
ended_some n [] h = absurd (omega arith)
ended_some n (b ∷ w) h = refl

-- one step of a gap
pub gap_step : (inside : Bool) (n b : ℕ) (bs : List ℕ) → (inside || apart b) ≡ true → words_after n [] (bare inside (b ∷ bs)) ≡ words_after (next_line n b) [] (bare (cond (eqb b 10) false (inside || eqb b 35)) bs)
unfolding bare words_after
gap_step inside n b bs h = grind (arith, nat_tests)

-- a blank of a gap
pub blank_step : (n b : ℕ) (bs : List ℕ) → apart b ≡ true → (b ≡ 35 → ⊥) → words_after n [] (bare false (b ∷ bs)) ≡ words_after (next_line n b) [] (bare false bs)
blank_step n b bs h other =
    let outside : cond (eqb b 10) false (eqb b 35) ≡ false = grind (arith, nat_tests) in
    gap_step false n b bs h ∙ ap (λ i. words_after (next_line n b) [] (bare i bs)) outside

-- a comment goes up to its line's end
comment_cut : (bs : List ℕ) → bare true bs ≡ bare false (drop (position_or_len (λ b. eqb b 10) bs) bs)
unfolding bare
comment_cut [] = refl
comment_cut (b ∷ bs) = let more = comment_cut bs in grind (arith, nat_tests, one-add (position_or_len (λ c. eqb c 10) bs))

-- a comment of a gap
pub comment_step : (n : ℕ) (bs : List ℕ) → words_after n [] (bare false (35 ∷ bs)) ≡ words_after n [] (bare false (drop (position_or_len (λ b. eqb b 10) bs) bs))
comment_step n bs = gap_step false n 35 bs refl ∙ ap (words_after n []) (comment_cut bs)

-- what stands behind a comment is its line's end
behind_comment : (c : ℕ) (bs more : List ℕ) → drop (position_or_len (λ b. eqb b 10) bs) bs ≡ c ∷ more → c ≡ 10
behind_comment c [] more h = grind (arith)
behind_comment c (b ∷ bs) more h = let rest = behind_comment c bs more in grind (arith, nat_tests, one-add (position_or_len (λ c. eqb c 10) bs))

-- a comment of a gap, with its line's end
pub comment_line : (n c : ℕ) (bs more : List ℕ) → drop (position_or_len (λ b. eqb b 10) bs) bs ≡ c ∷ more → words_after n [] (bare false (35 ∷ bs)) ≡ words_after (next_line n c) [] (bare false more)
comment_line n c bs more h =
    let ends = behind_comment c bs more h in
    comment_step n bs ∙ rw (h) (blank_step n c more (rw ends refl) (λ e. absurd (omega arith)))

-- where a word ends
pub word_cut : (n : ℕ) (w bs : List ℕ) → words_after n w (bare false bs) ≡ ended n (w ++ take (position_or_len apart bs) bs) ++ words_after n [] (bare false (drop (position_or_len apart bs) bs))
word_cut n w [] = word_done n w [] (λ h. absurd (omega arith)) ∙ ap (λ l. ended n l ++ words_after n [] (bare false [])) (sym (append-nil w))
word_cut n w (b ∷ bs) = ⊎_elim here (goes (word_cut n (w ++ b ∷ []) bs)) (cases_Bool (apart b))
  where
    here : apart b ≡ true → words_after n w (bare false (b ∷ bs)) ≡ ended n (w ++ take (position_or_len apart (b ∷ bs)) (b ∷ bs)) ++ words_after n [] (bare false (drop (position_or_len apart (b ∷ bs)) (b ∷ bs)))
    here e = rw e (word_done n w (b ∷ bs) (λ h. e) ∙ ap (λ l. ended n l ++ words_after n [] (bare false (b ∷ bs))) (sym (append-nil w)))

    goes : words_after n (w ++ b ∷ []) (bare false bs) ≡ ended n ((w ++ b ∷ []) ++ take (position_or_len apart bs) bs) ++ words_after n [] (bare false (drop (position_or_len apart bs) bs)) → apart b ≡ false → words_after n w (bare false (b ∷ bs)) ≡ ended n (w ++ take (position_or_len apart (b ∷ bs)) (b ∷ bs)) ++ words_after n [] (bare false (drop (position_or_len apart (b ∷ bs)) (b ∷ bs)))
    goes more e =
        rw (e, one-add (position_or_len apart bs)) (on_word n w b bs e ∙ (more ∙ ap (λ l. ended n l ++ words_after n [] (bare false (drop (position_or_len apart bs) bs))) (append_assoc w (b ∷ []) (take (position_or_len apart bs) bs))))

-- the word at the front of what is left of a text
pub word_taken : (n k : ℕ) (rest : List ℕ) → k ≡ position_or_len apart rest → 0 < length rest → apart (get_or rest 0 0) ≡ false → words_after n [] (bare false rest) ≡ record { spelling = take k rest; line = n } ∷ words_after n [] (bare false (drop k rest))
word_taken n k [] e some first = absurd (omega arith)
word_taken n k (b ∷ bs) e some first = rw (e, first, one-add (position_or_len apart bs)) (on_word n [] b bs first ∙ word_cut n (b ∷ []) bs)

-- a word is its first byte and what follows of it
pub word_longer : (k b : ℕ) (rest bs : List ℕ) → k ≡ position_or_len apart bs → rest ≡ b ∷ bs → apart (get_or rest 0 0) ≡ false → 1 + k ≡ position_or_len apart rest
word_longer k b rest bs e split first = rw (e, split) (let outside : apart b ≡ false = rw split at first in grind (arith, one-add (position_or_len apart bs)))

-- where a text has no byte more, there is no word more
pub gap_end : (inside : Bool) (n : ℕ) (bs : List ℕ) → length bs ≡ 0 → words_after n [] (bare inside bs) ≡ []
unfolding bare words_after
gap_end inside n [] h = refl
gap_end inside n (b ∷ bs) h = absurd (omega arith)

last_more : (n b : ℕ) (bs : List ℕ) → 0 < length bs → last_line n (b ∷ bs) ≡ last_line (next_line n b) bs
unfolding last_line
last_more n b [] h = absurd (omega arith)
last_more n b (c ∷ bs) h = refl

-- the line of the last byte, by the line ends before it
pub last_counted : (n b : ℕ) (bs : List ℕ) → last_line n (bs ++ b ∷ []) ≡ n + length (filter (λ c. eqb c 10) bs)
unfolding last_line
last_counted n b [] = omega arith
last_counted n b (c ∷ bs) =
    let some : 0 < length (bs ++ b ∷ []) = omega (arith, length-append bs (b ∷ [])) in
    last_more n c (bs ++ b ∷ []) some ∙ (last_counted (next_line n c) b bs ∙ grind (arith, nat_tests))
