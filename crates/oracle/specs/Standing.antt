-- What an oracle means, and what each of its calls answers and leaves.
use Rattle.std.specs.Prelude.{ℕ, ◌+◌, ◌-◌, ◌^◌, ◌<◌, ◌≤◌, cond, List, [], ◌∷◌, ◌++◌, length, Some, None, Ok, Err, Option, Result, nat_lt, slice_index_or}
use Rattle.field.specs.Field.{Ops}
use Rattle.algebra.specs.Polynomials.{value}
use Rattle.polynomial.specs.Refusals.{Told}
use Rattle.oracle.specs.Admission.{refusal_of}
use Rattle.oracle.specs.Faults.{told}
use Rattle.oracle.specs.declared.fault.OracleFault.TheVariants.{TooLong, Absent}

-- the polynomials that stand, in the order in which they were fixed, the cells in all, and the rule: the cells that a list needs
pub record Standing (K : Type 0) : Type 0 where
  pub lists : List (List K)
  pub cells : ℕ
  pub rule : List K → ℕ

-- the cells that lists need together
abbrev pub needed : {K : Type 0} → (List K → ℕ) → List (List K) → ℕ
needed rule [] = 0
needed rule (p ∷ ps) = rule p + needed rule ps

-- all cells less those that the standing lists need
abbrev pub free_of : {K : Type 0} → Standing K → ℕ
free_of s = s.cells - needed s.rule s.lists

-- what always holds: at most 16 polynomials stand and have room, and cells in all and the needs of any list of at most 16,384 coefficients are below 2^32
pub record Sound {K : Type 0} (s : Standing K) : Type 0 where
  pub few : length s.lists ≤ 16
  pub small : s.cells < 2 ^ 32
  pub room : needed s.rule s.lists ≤ s.cells
  pub ruled : (p : List K) → length p ≤ 16384 → s.rule p < 2 ^ 32

-- the same with no polynomial standing
abbrev pub emptied : {K : Type 0} → Standing K → Standing K
emptied s = record { lists = []; cells = s.cells; rule = s.rule }

-- the same with one polynomial more, the last
abbrev pub appended : {K : Type 0} → Standing K → List K → Standing K
appended s p = record { lists = s.lists ++ (p ∷ []); cells = s.cells; rule = s.rule }

-- what needs answers: the cells by the rule, or 63
abbrev pub needs_answer : {K : Type 0} → Standing K → List K → Result ℕ Told
needs_answer s p = cond (nat_lt 16384 (length p)) (Err (told TooLong)) (Ok (s.rule p))

-- the refusal that fits a list to be fixed: 62, 63, 61, in that order
abbrev pub fix_refusal : {K : Type 0} → Standing K → List K → Option Told
fix_refusal s p = refusal_of (length s.lists) (length p) (s.rule p) (free_of s)

-- an answer that says no more than whether a refusal fits
abbrev pub answer_by : Option Told → Result (Unit {0}) Told
answer_by (Some t) = Err t
answer_by None = Ok tt

-- s where a refusal fits, else t
abbrev pub after_by : {A : Type 0} → Option Told → A → A → A
after_by (Some _) s t = s
after_by None s t = t

-- what fix answers
abbrev pub fix_answer : {K : Type 0} → Standing K → List K → Result (Unit {0}) Told
fix_answer s p = answer_by (fix_refusal s p)

-- what stands after it
abbrev pub fix_after : {K : Type 0} → Standing K → List K → Standing K
fix_after s p = after_by (fix_refusal s p) s (appended s p)

-- what ask answers: the value of polynomial k at x, or 64
abbrev pub ask_answer : {K : Type 0} → Ops K → Standing K → ℕ → K → Result K Told
ask_answer f s k x = cond (nat_lt k (length s.lists)) (Ok (value f (slice_index_or s.lists k []) x)) (Err (told Absent))

-- what a list answers that is fixed alone and asked for its value at x: that value, or the refusal that fits the list
abbrev pub recall_answer : {K : Type 0} → Ops K → Standing K → List K → K → Result K Told
recall_answer f s p x = elim (fix_refusal (emptied s) p) [ Some t ↦ Err t | None ↦ Ok (value f p x) ]
