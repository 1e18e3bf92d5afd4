-- Where the polynomials of a reply lie in a buffer.
use Rattle.std.specs.Prelude.{◌≡◌, ℕ, ◌+◌, ◌*◌, ◌≤◌, List}
use Rattle.std.specs.List.{between}
use Rattle.prover.specs.declared.layout.Layout.{Layout}
use Rattle.prover.specs.declared.layout.Reply.{Reply}

-- r ends at N = 3n + 1, q at m·N, h1 at m·N + 6n + 1 and h2 at m·N + 8n
abbrev pub layout_of : ℕ → ℕ → Layout
layout_of m n = record { r_end = 3 * n + 1; q_end = m * (3 * n + 1); h1_end = m * (3 * n + 1) + (6 * n + 1); h2_end = m * (3 * n + 1) + 8 * n }

-- no end is past the next, nor the last past the cells
pub record InOrder (l : Layout) (cells : ℕ) : Type 0 where
  pub r_q : l.r_end ≤ l.q_end
  pub q_h1 : l.q_end ≤ l.h1_end
  pub h1_h2 : l.h1_end ≤ l.h2_end
  pub within : l.h2_end ≤ cells

-- the polynomials are the cells up to r's end, from there to q's, from there to h1's and from there to h2's
pub record SplitAt {X : Type 0} (l : Layout) (cells : List X) (p : Reply X) : Type 0 where
  pub r_is : p.r.now ≡ between 0 l.r_end cells
  pub q_is : p.q.now ≡ between l.r_end l.q_end cells
  pub h1_is : p.h1.now ≡ between l.q_end l.h1_end cells
  pub h2_is : p.h2.now ≡ between l.h1_end l.h2_end cells
