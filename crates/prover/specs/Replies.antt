-- What a prover writes into a buffer, and when it refuses.
use Rattle.std.specs.Prelude.{◌≡◌, ℕ, ◌+◌, ◌-◌, ◌*◌, cond, ◌||◌, List, map, length, take, drop, Some, None, Option, nat_le}
use Rattle.std.specs.List.{between, AllByRecursion}
use Rattle.field.specs.Field.{Ops}
use Rattle.algebra.specs.Polynomials.{coeff}
use Rattle.algebra.specs.Relation.{Claim, width}
use Rattle.algebra.specs.Proofs.{Reply, Solves, Honest}
use Rattle.prover.specs.Claims.{in_range, in_shape}
use Rattle.prover.specs.Refusals.{Told, told}
use Rattle.prover.specs.declared.refusal.Refusal.TheVariants.{BadSize, BadLength, ShortBuffer, ZeroChallenge}

-- the cells of a reply: m·N + 8n
abbrev pub reply_cells : ℕ → ℕ → ℕ
reply_cells m n = m * (3 * n + 1) + 8 * n

-- the first refusal that fits: 12 for the sizes, 13 for the lengths of M and the wires, 22 for a challenge that is zero, 16 for a buffer of too few cells
abbrev pub proof_refusal : {K : Type 0} → Ops K → Claim K → K → K → ℕ → Option Told
proof_refusal f s α β room =
    cond (in_range f.span s.m s.n)
    (cond (in_shape s.m s.n (length s.matrix) s.m (length s.left) (length s.right) (length s.out))
    (cond (f.same α f.nil || f.same β f.nil) (Some (told ZeroChallenge)) (cond (nat_le (reply_cells s.m s.n) room) None (Some (told ShortBuffer)))) (Some (told BadLength)))
    (Some (told BadSize))

-- r, q, h1 and h2, one after another: the cells before N, m·N, m·N + 6n + 1 and the end
abbrev pub reply_in : {K : Type 0} → ℕ → ℕ → List K → Reply K
reply_in m n cells = record {
  r = take (3 * n + 1) cells;
  q = between (3 * n + 1) (m * (3 * n + 1)) cells;
  h1 = between (m * (3 * n + 1)) (m * (3 * n + 1) + (6 * n + 1)) cells;
  h2 = drop (m * (3 * n + 1) + (6 * n + 1)) cells;
}

-- an honest reply with every coefficient, and v1 and v2 where h1 and h2 are free
pub record Replied {K : Type 0} (f : Ops K) (s : Claim K) (p : Reply K) (α β v1 v2 : K) : Type 0 where
  pub honest : Honest f s p α β
  pub free1 : coeff f p.h1 (3 * s.n) ≡ v1
  pub free2 : coeff f p.h2 (s.n - 1) ≡ v2
  pub r_long : length p.r ≡ width s
  pub q_long : length p.q ≡ (s.m - 1) * width s
  pub h1_long : length p.h1 ≡ 6 * s.n + 1
  pub h2_long : length p.h2 ≡ 2 * s.n - 1

-- the first cells stand for such a reply and are reduced, and the others are as they were
pub record Proved {X K : Type 0} (f : Ops K) (mean : X → K) (reduced : X → Type 0) (s : Claim K) (α β v1 v2 : K) (was is : List X) : Type 0 where
  pub replied : Replied f s (reply_in s.m s.n (map mean (take (reply_cells s.m s.n) is))) α β v1 v2
  pub tidy : AllByRecursion reduced (take (reply_cells s.m s.n) is)
  pub beyond : drop (reply_cells s.m s.n) is ≡ drop (reply_cells s.m s.n) was

-- the cells stand for an h that solves the middle product of a and b, with v at d, and are reduced
pub record Solution {X K : Type 0} (f : Ops K) (mean : X → K) (reduced : X → Type 0) (d : ℕ) (v : K) (a b : ℕ → K) (cells : List X) : Type 0 where
  pub solves : Solves f d (coeff f (map mean cells)) a b
  pub free : coeff f (map mean cells) d ≡ v
  pub tidy : AllByRecursion reduced cells
