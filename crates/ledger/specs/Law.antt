-- The law over runs: what is true of a session after any calls on it, refused ones among them.
use Rattle.std.specs.Prelude.{◌≡◌, ℕ, suc, ◌+◌, ◌-◌, ◌*◌, ◌<◌, ◌≤◌, min, max, ◌⊎◌, List, length, take, ◌≢◌}
use Rattle.field.specs.Field.{Ops}
use Rattle.algebra.specs.Relation.{Holds}
use Rattle.algebra.specs.Roots.{Each, Distinct}
use Rattle.algebra.specs.Proofs.{Equations, Honest}
use Rattle.algebra.specs.Challenges as challenges
use Rattle.oracle.specs.Standing.{Standing}
use Rattle.ledger.specs.Ledger.{Move, m_of, n_of, claim_of, reply_of, alpha_of, beta_of, z_of, entered, ledger_of, refused_of}
use Rattle.ledger.specs.States.{State, fresh, ran}

-- the claim of a ledger is true
abbrev pub TrueClaim : {K : Type 0} → Ops K → List (Move K) → Type 0
TrueClaim f l = Holds f (claim_of l)

-- E1, E2 and E3 hold for a ledger
abbrev pub Equal : {K : Type 0} → Ops K → List (Move K) → Type 0
Equal f l = Equations f (claim_of l) (reply_of l) (alpha_of f l) (beta_of f l) (z_of f l)

-- r, q, h1 and h2 of a ledger are those of an honest prover
abbrev pub HonestReply : {K : Type 0} → Ops K → List (Move K) → Type 0
HonestReply f l = Honest f (claim_of l) (reply_of l) (alpha_of f l) (beta_of f l)

-- a is a lucky α for a ledger as it stood just before that draw
abbrev pub LuckyAlpha : {K : Type 0} → Ops K → List (Move K) → K → Type 0
LuckyAlpha f l a = challenges.LuckyAlpha f (claim_of l) a

-- b is a lucky β for a ledger as it stood just before that draw
abbrev pub LuckyBeta : {K : Type 0} → Ops K → List (Move K) → K → Type 0
LuckyBeta f l b = challenges.LuckyBeta f (claim_of l) b

-- x is a lucky z for a ledger as it stood just before that draw
abbrev pub LuckyZ : {K : Type 0} → Ops K → List (Move K) → K → Type 0
LuckyZ f l x = challenges.LuckyZ f (claim_of l) (reply_of l) (alpha_of f l) (beta_of f l) x

-- a ledger as it stood just before α was drawn: its first 4 entries
abbrev pub before_alpha : {K : Type 0} → List (Move K) → List (Move K)
before_alpha l = take 4 l

-- just before β: its first 5
abbrev pub before_beta : {K : Type 0} → List (Move K) → List (Move K)
before_beta l = take 5 l

-- just before z: its first 10
abbrev pub before_z : {K : Type 0} → List (Move K) → List (Move K)
before_z l = take 10 l

-- one of the challenges of a ledger is lucky
abbrev pub OneLucky : {K : Type 0} → Ops K → List (Move K) → Type 0
OneLucky f l =
    (LuckyAlpha f (before_alpha l) (alpha_of f l)) ⊎ ((LuckyBeta f (before_beta l) (beta_of f l)) ⊎ (LuckyZ f (before_z l) (z_of f l)))

-- P holds of at most k elements other than zero
abbrev pub AtMost : {K : Type 0} → Ops K → ℕ → (K → Type 0) → Type 0
AtMost {K} f k P = (xs : List K) → Distinct xs → Each (λ x. (x ≢ f.nil) × P x) xs → length xs ≤ k

-- no verdict (0) before turn 12; then accepted (1) and E1 to E3 hold for the ledger, or turned down (2) and they do not
abbrev pub Verdict : {K : Type 0} → Ops K → List (Move K) → ℕ → ℕ → Type 0
Verdict f l turn verdict =
    ((turn < 12) × (verdict ≡ 0)) ⊎ (((turn ≡ 12) × (verdict ≡ 1) × Equal f l) ⊎ ((turn ≡ 12) × (verdict ≡ 2) × (Equal f l → ⊥)))

-- the ledger l only grew: that after the first k calls is a front of it
abbrev pub Grows : {K : Type 0} → Ops K → Standing K → List (Move K) → List (Move K) → Type 0
Grows f st calls l = (k : ℕ) → take (length (ledger_of f st (take k calls))) l ≡ ledger_of f st (take k calls)

-- each entry j of the ledger l was made by one call: before it the ledger had the first j entries, and with it one more
abbrev pub EnteredOnce : {K : Type 0} → Ops K → Standing K → List (Move K) → List (Move K) → Type 0
EnteredOnce f st calls l =
    (j : ℕ) → j < length l → (k : ℕ) × (ledger_of f st (take k calls) ≡ take j l) × (ledger_of f st (take (suc k) calls) ≡ take (suc j) l)

-- the state s has what the ledger l names: the polynomials that stand, the cells and the rule as they were, m, n, α, β, z
pub record Named {K : Type 0} (f : Ops K) (st : Standing K) (l : List (Move K)) (s : State K) : Type 0 where
  pub stands : s.oracle ≡ entered st l
  pub m_is : s.m ≡ m_of l
  pub n_is : s.n ≡ n_of l
  pub alpha_is : s.alpha ≡ alpha_of f l
  pub beta_is : s.beta ≡ beta_of f l
  pub z_is : s.z ≡ z_of f l

-- what holds of a run over an oracle with the standing st, of its ledger l and of the state s after it:
-- 1. the ledger has the turn; the verdict is that of the ledger; the count is that of the calls that changed nothing, capped
-- 2. a false claim is accepted only by a lucky challenge
-- 3. the calls accepted before a challenge's draw decide which of its values are lucky, and only few are
-- 4. where the verdict is turned down, the claim is false or the reply was not honest
-- 5. the state is the one that the ledger names
pub record Keeps {K : Type 0} (f : Ops K) (st : Standing K) (calls l : List (Move K)) (s : State K) : Type 0 where
  pub turn_is : s.turn ≡ length l
  pub verdict_is : Verdict f l s.turn s.verdict
  pub count_is : s.count ≡ min (refused_of f st calls) 4294967295
  pub all_told : length l + refused_of f st calls ≡ length calls
  pub accepted_false : s.verdict ≡ 1 → (TrueClaim f l → ⊥) → OneLucky f l
  pub grows : Grows f st calls l
  pub entered_once : EnteredOnce f st calls l
  pub few_alpha : 4 ≤ s.turn → AtMost f (m_of l - 1) (LuckyAlpha f (before_alpha l))
  pub few_beta : 5 ≤ s.turn → AtMost f (n_of l - 1) (LuckyBeta f (before_beta l))
  pub few_z : 10 ≤ s.turn → AtMost f (max (m_of l * (3 * n_of l + 1) - 1) (6 * n_of l)) (LuckyZ f (before_z l))
  pub turned_down : s.verdict ≡ 2 → (TrueClaim f l → ⊥) ⊎ (HonestReply f l → ⊥)
  pub named : Named f st l s

-- the law of the calls and the state after them: that of the run's ledger
abbrev pub Law : {K : Type 0} → Ops K → Standing K → List (Move K) → State K → Type 0
Law f st calls s = Keeps f st calls (ledger_of f st calls) s

-- every run keeps the law
abbrev pub RunsKeepTheLaw : {K : Type 0} → Ops K → Type 0
RunsKeepTheLaw {K} f = (st : Standing K) (calls : List (Move K)) → Law f st calls (ran f (fresh f st) calls)
