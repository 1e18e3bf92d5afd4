-- A written claim is read back.
use Rattle.std.proofs.Common.{◌≡◌, ℕ, ◌+◌, ◌*◌, ◌^◌, ◌<◌, ◌≤◌, Bool, true, false, not, ◌&&◌, List, [], ◌∷◌, ◌++◌, length, get_or, take, Some, Ok, codes, decimal, sym, refl, ap, ◌∙◌, append_assoc, append-nil, arith}
use Rattle.std.proofs.lemmas.Fmt.{decimal_is_IsNumeral}
use Rattle.std.proofs.lemmas.Slice.Eq.{bytes_eq-Decides}
use Rattle.std.proofs.lemmas.Str.Parse.{digit_from_value}
use Rattle.std.proofs.lemmas.Bool.{and_parts, not-true, lt-ltb}
use Rattle.std.proofs.lemmas.Bool.Decides.{nat_tests}
use Rattle.std.specs.Str.Parse.{AllDigits, digits_value_after}
use Rattle.std.specs.Int.{IsInRange}
use Rattle.std.specs.Char.{digit_value as decimal_digit_value}
use Rattle.std.specs.Str.{bytes_eq}
use Rattle.claim_file.specs.declared.FieldName.{FieldName}
use Rattle.claim_file.specs.declared.FieldName.TheVariants.{Mersenne31, Gf256}
use Rattle.claim_file.specs.declared.words.Keyword.{Keyword}
use Rattle.claim_file.specs.declared.words.Keyword.TheVariants.{Field, M, N, Matrix, Vector, Left, Right, Out}
use Rattle.claim_file.specs.Lexical.{Located, bare, words_after, words, last_line}
use Rattle.claim_file.specs.Numbers.{digit_value, spelled_after, number_of}
use Rattle.claim_file.specs.State.{apart}
use Rattle.claim_file.specs.Grammar.{Claim, order, letters, value_of, next_word, keyword, field_name, number_after, numbers_until, numbers_to_end, heading, claim_said, read_spec}
use Rattle.claim_file.specs.Written.{listed, name_of, line_with, written, BelowAll, Sayable, ReadsBack}
use Rattle.claim_file.proofs.Lexing.{on_word, word_done, ended_some}
use Rattle.claim_file.proofs.Numerals.{spelled_some}

-- no byte ends a word
abbrev solid : List ℕ → Bool
solid [] = true
solid (b ∷ bs) = not (apart b) && solid bs

solid_run : (n : ℕ) (u w bs : List ℕ) → solid w ≡ true → words_after n u (bare false (w ++ bs)) ≡ words_after n (u ++ w) (bare false bs)
solid_run n u [] bs h = ap (λ l. words_after n l (bare false bs)) (sym (append-nil u))
solid_run n u (b ∷ w) bs h =
    let parts = and_parts (not (apart b)) (solid w) h in
    on_word n u b (w ++ bs) (not-true (apart b) parts.0) ∙ (solid_run n (u ++ b ∷ []) w bs parts.1 ∙ ap (λ l. words_after n l (bare false bs)) (append_assoc u (b ∷ []) w))

abbrev word_of : ℕ → List ℕ → Located
word_of n w = record { spelling = w; line = n }

one_word : (n : ℕ) (w bs : List ℕ) → solid w ≡ true → 0 < length w → (0 < length bs → apart (get_or bs 0 0) ≡ true) → words_after n [] (bare false (w ++ bs)) ≡ word_of n w ∷ words_after n [] (bare false bs)
one_word n w bs h some next =
    solid_run n [] w bs h ∙ (word_done n w bs next ∙ ap (λ e. e ++ words_after n [] (bare false bs)) (ended_some n w some))

-- digits
solid_digits : (ds : List ℕ) → AllDigits 10 ds → solid ds ≡ true
solid_digits [] h = refl
solid_digits (c ∷ cs) h =
    let range = digit_from_value c h.0 in
    let more = solid_digits cs h.1 in
    grind (arith, nat_tests)

digit_read : (c : ℕ) → IsInRange 48 57 c → digit_value 10 c ≡ Some (decimal_digit_value c)
digit_read c h = grind (arith, nat_tests)

spelled_digits : (v : ℕ) (ds : List ℕ) → AllDigits 10 ds → spelled_after 10 v ds ≡ Some (digits_value_after 10 v ds)
unfolding spelled_after
spelled_digits v [] h = refl
spelled_digits v (c ∷ cs) h = rw (digit_read c (digit_from_value c h.0)) (spelled_digits (v * 10 + decimal_digit_value c) cs h.1)

no_prefix : (ds : List ℕ) → AllDigits 10 ds → bytes_eq (take 2 ds) (codes "0x") ≡ false
no_prefix [] h = refl
no_prefix (c ∷ []) h = grind (arith, nat_tests)
no_prefix (c ∷ d ∷ ds) h = let range = digit_from_value d h.1.0 in grind (arith, nat_tests)

decimal_number : (v : ℕ) → v < 2 ^ 64 → number_of (decimal v) ≡ Some v
unfolding number_of
decimal_number v h =
    let r = decimal_is_IsNumeral v h in
    rw (no_prefix (decimal v) r.0.1) (spelled_some 10 (decimal v) r.0.0 ∙ (spelled_digits 0 (decimal v) r.0.1 ∙ ap Some r.1))

-- the words of a line
abbrev numerals : ℕ → List ℕ → List Located
numerals n [] = []
numerals n (v ∷ vs) = word_of n (decimal v) ∷ numerals n vs

next_apart : (vs rest : List ℕ) → 0 < length (listed vs ++ 10 ∷ rest) → apart (get_or (listed vs ++ 10 ∷ rest) 0 0) ≡ true
next_apart [] rest h = refl
next_apart (v ∷ vs) rest h = refl

listed_words : (n : ℕ) (vs rest : List ℕ) → BelowAll (2 ^ 64) vs → words_after n [] (bare false (listed vs ++ 10 ∷ rest)) ≡ numerals n vs ++ words_after (n + 1) [] (bare false rest)
unfolding bare words_after
listed_words n [] rest h = refl
listed_words n (v ∷ vs) rest h =
    let r = decimal_is_IsNumeral v h.0 in
    ap (λ l. words_after n [] (bare false l)) (append_assoc (decimal v) (listed vs) (10 ∷ rest))
    ∙ (one_word n (decimal v) (listed vs ++ 10 ∷ rest) (solid_digits (decimal v) r.0.1) r.0.0 (next_apart vs rest)
    ∙ ap (λ l. word_of n (decimal v) ∷ l) (listed_words n vs rest h.1))

solid_key : (key : Keyword) → (solid (letters key) ≡ true) × (0 < length (letters key))
solid_key key = grind (arith, nat_tests)

abbrev key_of : ℕ → Keyword → Located
key_of n key = word_of n (letters key)

line_words : (n : ℕ) (key : Keyword) (vs rest : List ℕ) → BelowAll (2 ^ 64) vs → words_after n [] (bare false (line_with key (listed vs) rest)) ≡ key_of n key ∷ (numerals n vs ++ words_after (n + 1) [] (bare false rest))
line_words n key vs rest h =
    one_word n (letters key) (listed vs ++ 10 ∷ rest) (solid_key key).0 (solid_key key).1 (next_apart vs rest) ∙ ap (λ l. key_of n key ∷ l) (listed_words n vs rest h)

solid_name : (name : FieldName) → (solid (name_of name) ≡ true) × (0 < length (name_of name))
solid_name name = grind (arith, nat_tests)

name_words : (n : ℕ) (name : FieldName) (rest : List ℕ) → words_after n [] (bare false (line_with Field (32 ∷ name_of name) rest)) ≡ key_of n Field ∷ (word_of n (name_of name) ∷ words_after (n + 1) [] (bare false rest))
unfolding bare words_after
name_words n name rest =
    ap (λ l. key_of n Field ∷ l) (one_word n (name_of name) (10 ∷ rest) (solid_name name).0 (solid_name name).1 (λ _. refl))

-- what the words say
same_key : (key : Keyword) → bytes_eq (letters key) (letters key) ≡ true
same_key key = (bytes_eq-Decides (letters key) (letters key)).1 refl

key_read : (last n : ℕ) (key : Keyword) (ws : List Located) → keyword last key (key_of n key ∷ ws) ≡ Ok (tt, ws)
unfolding keyword next_word
key_read last n key ws = rw (same_key key)

name_read : (last n : ℕ) (name : FieldName) (ws : List Located) → field_name last (word_of n (name_of name) ∷ ws) ≡ Ok (name, ws)
unfolding field_name next_word
name_read last n Mersenne31 ws = refl
name_read last n Gf256 ws = refl

value_read : (bound n v : ℕ) → bound ≤ 2 ^ 32 → v < bound → value_of bound (word_of n (decimal v)) ≡ Ok v
value_read bound n v b h = rw (decimal_number v (omega arith), lt-ltb v bound h)

number_read : (last n v : ℕ) (key : Keyword) (ws : List Located) → v < 2 ^ 32 → number_after last key (key_of n key ∷ (word_of n (decimal v) ∷ ws)) ≡ Ok (v, ws)
unfolding number_after next_word
number_read last n v key ws h = rw (key_read last n key (word_of n (decimal v) ∷ ws), value_read (2 ^ 32) n v (omega arith) h)

-- a digit begins no keyword
no_key_digits : (ds : List ℕ) (key : Keyword) → AllDigits 10 ds → bytes_eq ds (letters key) ≡ false
no_key_digits [] key h = grind (arith, nat_tests)
no_key_digits (c ∷ cs) key h = let low = digit_from_value c h.0 in grind (arith, nat_tests)

module _ (last bound : ℕ) (small : bound ≤ 2 ^ 32) where
  list_read : (n k : ℕ) (key : Keyword) (vs : List ℕ) (ws : List Located) → BelowAll bound vs → numbers_until last bound key (numerals n vs ++ (key_of k key ∷ ws)) ≡ Ok (vs, ws)
  unfolding numbers_until
  list_read n k key [] ws h = rw (same_key key)
  list_read n k key (v ∷ vs) ws h =
      rw (no_key_digits (decimal v) key (decimal_is_IsNumeral v (omega (arith, h.0))).0.1, value_read bound n v small h.0, list_read n k key vs ws h.1)

  end_read : (n : ℕ) (vs : List ℕ) → BelowAll bound vs → numbers_to_end bound (numerals n vs ++ []) ≡ Ok (vs, [])
  unfolding numbers_to_end
  end_read n [] h = refl
  end_read n (v ∷ vs) h = rw (value_read bound n v small h.0, end_read n vs h.1)

small_order : (name : FieldName) → order name ≤ 2 ^ 32
small_order name = grind arith

wide : (bound : ℕ) (vs : List ℕ) → bound ≤ 2 ^ 32 → BelowAll bound vs → BelowAll (2 ^ 64) vs
wide bound [] b h = tt
wide bound (v ∷ vs) b h = (omega (arith, h.0), wide bound vs b h.1)

module _ (c : Claim) (fits : Sayable c) where
  abbrev tail_5 : List Located
  tail_5 = key_of 5 Vector ∷ (numerals 5 c.vector ++ (key_of 6 Left ∷ (numerals 6 c.left ++ (key_of 7 Right ∷ (numerals 7 c.right ++ (key_of 8 Out ∷ (numerals 8 c.out ++ [])))))))

  abbrev all_words : List Located
  all_words = key_of 1 Field ∷ (word_of 1 (name_of c.field) ∷ (key_of 2 M ∷ (word_of 2 (decimal c.m) ∷ (key_of 3 N ∷ (word_of 3 (decimal c.n) ∷ (key_of 4 Matrix ∷ (numerals 4 c.matrix ++ tail_5)))))))

  wide_list : (vs : List ℕ) → BelowAll (order c.field) vs → BelowAll (2 ^ 64) vs
  wide_list vs h = wide (order c.field) vs (small_order c.field) h

  words_written : words (written c) ≡ all_words
  unfolding words written words_after bare
  words_written =
      name_words 1 c.field _
      ∙ ap (λ l. key_of 1 Field ∷ (word_of 1 (name_of c.field) ∷ l))
      (line_words 2 M (c.m ∷ []) _ (omega (arith, fits.m_fits), tt)
      ∙ ap (λ l. key_of 2 M ∷ (word_of 2 (decimal c.m) ∷ l))
      (line_words 3 N (c.n ∷ []) _ (omega (arith, fits.n_fits), tt)
      ∙ ap (λ l. key_of 3 N ∷ (word_of 3 (decimal c.n) ∷ l))
      (line_words 4 Matrix c.matrix _ (wide_list c.matrix fits.matrix_fits)
      ∙ ap (λ l. key_of 4 Matrix ∷ (numerals 4 c.matrix ++ l))
      (line_words 5 Vector c.vector _ (wide_list c.vector fits.vector_fits)
      ∙ ap (λ l. key_of 5 Vector ∷ (numerals 5 c.vector ++ l))
      (line_words 6 Left c.left _ (wide_list c.left fits.left_fits)
      ∙ ap (λ l. key_of 6 Left ∷ (numerals 6 c.left ++ l))
      (line_words 7 Right c.right _ (wide_list c.right fits.right_fits)
      ∙ ap (λ l. key_of 7 Right ∷ (numerals 7 c.right ++ l))
      (line_words 8 Out c.out [] (wide_list c.out fits.out_fits))))))))

  words_read : (last : ℕ) → claim_said last all_words ≡ Ok c
  unfolding claim_said heading
  words_read last =
      let s = small_order c.field in
      rw (
        key_read last 1 Field _,
        name_read last 1 c.field _,
        number_read last 2 c.m M _ fits.m_fits,
        number_read last 3 c.n N _ fits.n_fits,
        key_read last 4 Matrix _,
        list_read last (order c.field) s 4 5 Vector c.matrix _ fits.matrix_fits,
        list_read last (order c.field) s 5 6 Left c.vector _ fits.vector_fits,
        list_read last (order c.field) s 6 7 Right c.left _ fits.left_fits,
        list_read last (order c.field) s 7 8 Out c.right _ fits.right_fits,
        end_read last (order c.field) s 8 c.out fits.out_fits,
      )

pub reads_back : ReadsBack
unfolding read_spec
reads_back c fits = ap (claim_said (last_line 1 (written c))) (words_written c fits) ∙ words_read c fits (last_line 1 (written c))
