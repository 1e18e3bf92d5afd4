-- The calls of a run, the ledger that they make, and what is read off it.
use Rattle.std.specs.Prelude.{ℕ, ◌+◌, ◌-◌, ◌*◌, Bool, cond, ◌&&◌, ◌||◌, List, [], ◌∷◌, ◌++◌, map, length, Some, None, Option, ◌==◌, nat_le, nat_lt, slice_index_or}
use Rattle.field.specs.Field.{Ops}
use Rattle.algebra.specs.Relation.{Claim}
use Rattle.algebra.specs.Proofs.{Reply}
use Rattle.polynomial.specs.Refusals.{Told}
use Rattle.prover.specs.Claims.{in_range}
use Rattle.oracle.specs.Standing.{Standing, free_of, fix_refusal, after_by}
use Rattle.oracle.specs.declared.fault.OracleFault.TheVariants.{NoRoom}
use Rattle.ledger.specs.Faults.{told, held}
use Rattle.ledger.specs.declared.fault.SessionFault.TheVariants.{OutOfTurn, BadSize, BadLength, TooMany, Oracle, DrawOutOfTurn, ZeroChallenge, JudgeOutOfTurn}
use Rattle.ledger.specs.declared.call.Call.{Call}
use Rattle.ledger.specs.declared.call.Call.TheVariants.{Open, Put, Draw, Judge}

-- a call over the elements that its values stand for: opens m n M x, puts p, draws a challenge, judges
pub data Move (K : Type 0) : Type 0 where
  opens : ℕ → ℕ → List K → List K → Move K
  puts : List K → Move K
  draws : K → Move K
  judges : Move K

-- the meaning of a call, with that of the values
abbrev pub move_of : {E K : Type 0} → (E → K) → Call E → Move K
move_of mean (Open s) = opens s.m s.n (map mean s.matrix.now) (map mean s.vector.now)
move_of mean (Put p) = puts (map mean p.now)
move_of mean (Draw x) = draws (mean x)
move_of mean Judge = judges

-- the polynomials that a call enters
abbrev pub lists_in : {K : Type 0} → Move K → List (List K)
lists_in (opens m n matrix vector) = matrix ∷ vector ∷ []
lists_in (puts p) = p ∷ []
lists_in (draws x) = []
lists_in judges = []

-- the challenge that a call enters
abbrev pub drawn_in : {K : Type 0} → Move K → List K
drawn_in (opens m n matrix vector) = []
drawn_in (puts p) = []
drawn_in (draws x) = x ∷ []
drawn_in judges = []

-- the sizes that a call enters
abbrev pub sizes_in : {K : Type 0} → Move K → ℕ × ℕ
sizes_in (opens m n matrix vector) = (m, n)
sizes_in (puts p) = (0, 0)
sizes_in (draws x) = (0, 0)
sizes_in judges = (0, 0)

-- a ledger is the list of the accepted calls, the oldest first, and its turn is its length; its polynomials by their numbers: M, x, wl, wr, wo, r, q, h1, h2
abbrev pub lists_of : {K : Type 0} → List (Move K) → List (List K)
lists_of [] = []
lists_of (c ∷ l) = lists_in c ++ lists_of l

-- its challenges: α, β, z
abbrev pub drawn_of : {K : Type 0} → List (Move K) → List K
drawn_of [] = []
drawn_of (c ∷ l) = drawn_in c ++ drawn_of l

-- its sizes, which the first call has
abbrev pub sizes_of : {K : Type 0} → List (Move K) → ℕ × ℕ
sizes_of [] = (0, 0)
sizes_of (c ∷ l) = sizes_in c

-- m
abbrev pub m_of : {K : Type 0} → List (Move K) → ℕ
m_of l = (sizes_of l).0

-- n
abbrev pub n_of : {K : Type 0} → List (Move K) → ℕ
n_of l = (sizes_of l).1

-- polynomial k, empty where there is none
abbrev pub list_of : {K : Type 0} → ℕ → List (Move K) → List K
list_of k l = slice_index_or (lists_of l) k []

-- challenge k, zero where there is none
abbrev pub challenge_of : {K : Type 0} → Ops K → ℕ → List (Move K) → K
challenge_of f k l = slice_index_or (drawn_of l) k f.nil

-- α
abbrev pub alpha_of : {K : Type 0} → Ops K → List (Move K) → K
alpha_of f l = challenge_of f 0 l

-- β
abbrev pub beta_of : {K : Type 0} → Ops K → List (Move K) → K
beta_of f l = challenge_of f 1 l

-- z
abbrev pub z_of : {K : Type 0} → Ops K → List (Move K) → K
z_of f l = challenge_of f 2 l

-- the claim of a ledger: m, n, M, x, wl, wr, wo
abbrev pub claim_of : {K : Type 0} → List (Move K) → Claim K
claim_of l = record {
  m = m_of l;
  n = n_of l;
  matrix = list_of 0 l;
  vector = list_of 1 l;
  left = list_of 2 l;
  right = list_of 3 l;
  out = list_of 4 l;
}

-- the prover's reply: r, q, h1, h2
abbrev pub reply_of : {K : Type 0} → List (Move K) → Reply K
reply_of l = record { r = list_of 5 l; q = list_of 6 l; h1 = list_of 7 l; h2 = list_of 8 l }

-- a put is due at turns 1 to 3 (wl, wr, wo) and 6 to 9 (r, q, h1, h2)
abbrev pub put_due : ℕ → Bool
put_due t = (nat_le 1 t && nat_le t 3) || (nat_le 6 t && nat_le t 9)

-- the most coefficients of a put at a turn: n of each wire, N = 3n + 1 of r, (m - 1)·N of q, 6n + 1 of h1, 2n - 1 of h2
abbrev pub allowed : ℕ → ℕ → ℕ → ℕ
allowed t m n = cond (nat_le t 3) n (cond (t == 6) (3 * n + 1) (cond (t == 7) ((m - 1) * (3 * n + 1)) (cond (t == 8) (6 * n + 1) (2 * n - 1))))

-- a draw is due at turns 4 (α), 5 (β) and 10 (z)
abbrev pub draw_due : ℕ → Bool
draw_due t = t == 4 || (t == 5 || t == 10)

-- M has m rows of 3n + 1 entries, and x has m entries: by the two lengths
abbrev pub in_shape : ℕ → ℕ → ℕ → ℕ → Bool
in_shape m n matrix vector = matrix == m * (3 * n + 1) && vector == m

-- 15 with 61 where M and x together need more cells than are free
abbrev pub room_refusal : {K : Type 0} → Standing K → List K → List K → Option Told
room_refusal st matrix vector =
    cond (nat_lt (free_of st) (st.rule matrix + st.rule vector)) (Some (told (Oracle (NoRoom (st.rule matrix + st.rule vector) (free_of st))))) None

-- an open that is due: 12 for the sizes, 13 for the lengths, 15 for the cells
abbrev pub open_refusal : {K : Type 0} → Ops K → Standing K → ℕ → ℕ → List K → List K → Option Told
open_refusal f st m n matrix vector =
    cond (in_range f.span m n) (cond (in_shape m n (length matrix) (length vector)) (room_refusal st matrix vector) (Some (told BadLength))) (Some (told BadSize))

-- a put that is due, of at most so many coefficients: 14, then 15 with what the oracle refuses
abbrev pub put_refusal : {K : Type 0} → Standing K → ℕ → List K → Option Told
put_refusal st most p = cond (nat_lt most (length p)) (Some (told TooMany)) (held (fix_refusal st p))

-- a draw that is due: 22
abbrev pub draw_refusal : {K : Type 0} → Ops K → K → Option Told
draw_refusal f x = cond (f.same x f.nil) (Some (told ZeroChallenge)) None

-- the refusal that fits a call, if any, at turn t over what stands in the oracle: open tries 11, 12, 13, 15, put 11, 14, 15, draw 21, 22, judge 31
abbrev pub refusal_at : {K : Type 0} → Ops K → Standing K → ℕ → ℕ → ℕ → Move K → Option Told
refusal_at f st t m n (opens a b matrix vector) = cond (t == 0) (open_refusal f st a b matrix vector) (Some (told OutOfTurn))
refusal_at f st t m n (puts p) = cond (put_due t) (put_refusal st (allowed t m n) p) (Some (told OutOfTurn))
refusal_at f st t m n (draws x) = cond (draw_due t) (draw_refusal f x) (Some (told DrawOutOfTurn))
refusal_at f st t m n judges = cond (t == 11) None (Some (told JudgeOutOfTurn))

-- the cells and the rule of st, with the polynomials of a ledger standing
abbrev pub entered : {K : Type 0} → Standing K → List (Move K) → Standing K
entered st l = record { lists = lists_of l; cells = st.cells; rule = st.rule }

-- the refusal that fits a call after a ledger; of st only the cells and the rule count
abbrev pub refusal : {K : Type 0} → Ops K → Standing K → List (Move K) → Move K → Option Told
refusal f st l c = refusal_at f (entered st l) (length l) (m_of l) (n_of l) c

-- the ledger after one more call: an accepted one is entered, and a refused one changes nothing
abbrev pub enter : {K : Type 0} → Ops K → Standing K → List (Move K) → Move K → List (Move K)
enter f st l c = after_by (refusal f st l c) l (l ++ (c ∷ []))

-- the ledger after the calls cs
abbrev pub ledger_from : {K : Type 0} → Ops K → Standing K → List (Move K) → List (Move K) → List (Move K)
ledger_from f st l [] = l
ledger_from f st l (c ∷ cs) = ledger_from f st (enter f st l c) cs

-- one where a refusal fits, else none
abbrev pub refusals_by : Option Told → ℕ
refusals_by o = after_by o 1 0

-- how many of the calls cs are refused
abbrev pub refused_from : {K : Type 0} → Ops K → Standing K → List (Move K) → List (Move K) → ℕ
refused_from f st l [] = 0
refused_from f st l (c ∷ cs) = refusals_by (refusal f st l c) + refused_from f st (enter f st l c) cs

-- the ledger of a run: of calls on a new session
abbrev pub ledger_of : {K : Type 0} → Ops K → Standing K → List (Move K) → List (Move K)
ledger_of f st cs = ledger_from f st [] cs

-- how many calls of a run are refused
abbrev pub refused_of : {K : Type 0} → Ops K → Standing K → List (Move K) → ℕ
refused_of f st cs = refused_from f st [] cs
