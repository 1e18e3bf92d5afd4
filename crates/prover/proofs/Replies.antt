-- Solutions of the middle product, and the reply that stands in its cells.
use Rattle.std.proofs.Common.{◌≡◌, ℕ, zero, suc, ◌+◌, ◌-◌, ◌*◌, ◌%◌, ◌<◌, ◌≤◌, List, ◌++◌, map, length, take, drop, sym, refl, ap, ◌∙◌, subst, ap₂, append_assoc, length-append, arith, eq-eqb, ne_eqb}
use native.Mathlib.Nat.{mul-mod_left}
use Rattle.std.specs.List.{between}
use Rattle.std.proofs.lemmas.List.{length-map, take-map, drop-map, take_at, drop_at}
use Rattle.std.proofs.lemmas.List.FromFn.{get_or-map-range_with_len}
use Rattle.field.specs.Field.{Ops, power}
use Rattle.algebra.specs.Sums.{sub}
use Rattle.algebra.specs.Polynomials.{coeff, middle, Divides}
use Rattle.algebra.specs.Relation.{wires}
use Rattle.algebra.specs.Proofs.{Reply, left_scaled}
use Rattle.polynomial.specs.Cells.{Cells, Divided}
use Rattle.polynomial.specs.Lengths.{RowsFit}
use Rattle.polynomial.specs.Twist.{untwisted, solved}
use Rattle.prover.specs.Claims.{claim_of}
use Rattle.prover.specs.Replies.{reply_in, Replied, Solution}
use Rattle.prover.specs.declared.claim.Claim.{Claim}
use Rattle.prover.proofs.Parts.{map_part}

-- cells that hold a middle product, after they were solved
module _ {X K : Type 0} (f : Ops K) (mean : X → K) (reduced : X → Type 0) (d : ℕ) (v : K) (a b : ℕ → K) (xs ys : List X) where
  at_open : (y : K) → untwisted f d v y d ≡ v
  at_open y = rw (eq-eqb d d refl)

  elsewhere : (y : K) (k : ℕ) → (k ≡ d → ⊥) → untwisted f d v y k ≡ f.mul y (f.inv (sub f (power f f.gamma d) (power f f.gamma k)))
  elsewhere y k h = rw (ne_eqb k d h)

  entry : Cells mean reduced ys (solved f d v (map mean xs)) → (k : ℕ) → k < 2 * d + 1 → coeff f (map mean ys) k ≡ untwisted f d v (coeff f (map mean xs) k) k
  entry is k l =
      ap (λ ks. coeff f ks k) is.means ∙ get_or-map-range_with_len (λ i. untwisted f d v (coeff f (map mean xs) i) i) 0 (2 * d + 1) k k f.nil l (omega arith)

  pub solution : ((k : ℕ) → k < 2 * d + 1 → coeff f (map mean xs) k ≡ middle f d a b k) → Cells mean reduced ys (solved f d v (map mean xs))
      → Solution f mean reduced d v a b ys
  solution was is = record {
    solves = λ k l o. entry is k (omega arith) ∙ elsewhere (coeff f (map mean xs) k) k o
        ∙ ap (λ y. f.mul y (f.inv (sub f (power f f.gamma d) (power f f.gamma k)))) (was k (omega arith));
    free = entry is d (omega arith) ∙ at_open (coeff f (map mean xs) d);
    tidy = is.tidy;
  }

-- M as whole rows
pub whole_rows : (m w p q r : ℕ) → 1 ≤ m → 0 < w → p ≡ m * w → q ≡ (m - 1) * w → r ≡ w → RowsFit p q r
whole_rows zero w p q r h some ep eq er = absurd (omega arith)
whole_rows (suc m) w p q r h some ep eq er =
    let less : suc m - 1 ≡ m = omega arith in
    let rows : q ≡ m * w = eq ∙ ap (λ k. k * w) less in
    record { some = omega arith; row_less = omega arith; whole = ap₂ ◌%◌ rows er ∙ mul-mod_left m w }

-- a list between two others
part_at : {X : Type 0} (front mid back : List X) (a b : ℕ) → length front ≡ a → b ≡ a + length mid → between a b (front ++ (mid ++ back)) ≡ mid
part_at front mid back a b ea eb =
    let long : length mid ≡ b - a = omega arith in
    ap (take (b - a)) (drop_at front (mid ++ back) a ea) ∙ take_at mid back (b - a) long

-- a reply from its four polynomials
made : {K : Type 0} → List K → List K → List K → List K → Reply K
made r q h1 h2 = record { r = r; q = q; h1 = h1; h2 = h2 }

-- four lists one behind another, as long as the polynomials of a reply
module _ {X K : Type 0} (f : Ops K) (mean : X → K) (reduced : X → Type 0) (c : Claim X) (α β v1 v2 : K) (r q h1 h2 : List X)
    (some_rows : 1 ≤ c.statement.m) (some_gates : 1 ≤ c.statement.n) (r_long : length r ≡ 3 * c.statement.n + 1) (q_long : length q ≡ (c.statement.m - 1) * (3 * c.statement.n + 1))
    (h1_long : length h1 ≡ 6 * c.statement.n + 1) (h2_long : length h2 ≡ 2 * c.statement.n - 1) where
  abbrev m : ℕ
  m = c.statement.m

  abbrev n : ℕ
  n = c.statement.n

  cells : List X
  cells = r ++ (q ++ (h1 ++ h2))

  rows_long : length (r ++ q) ≡ m * (3 * n + 1)
  rows_long = length-append r q ∙ omega (arith, (whole_rows m (3 * n + 1) (m * (3 * n + 1)) (length q) (length r) some_rows (omega arith) refl q_long r_long).row_less)

  end_long : length (r ++ q ++ h1) ≡ m * (3 * n + 1) + (6 * n + 1)
  end_long = length-append (r ++ q) h1 ∙ omega (arith, rows_long)

  r_is : take (3 * n + 1) (map mean cells) ≡ map mean r
  unfolding cells
  r_is = take-map mean (3 * n + 1) cells ∙ ap (map mean) (take_at r (q ++ (h1 ++ h2)) (3 * n + 1) r_long)

  q_is : between (3 * n + 1) (m * (3 * n + 1)) (map mean cells) ≡ map mean q
  unfolding cells
  q_is =
      map_part mean (3 * n + 1) (m * (3 * n + 1)) cells
      ∙ ap (map mean) (part_at r q (h1 ++ h2) (3 * n + 1) (m * (3 * n + 1)) r_long (omega (arith, rows_long, length-append r q)))

  h1_is : between (m * (3 * n + 1)) (m * (3 * n + 1) + (6 * n + 1)) (map mean cells) ≡ map mean h1
  unfolding cells
  h1_is =
      map_part mean (m * (3 * n + 1)) (m * (3 * n + 1) + (6 * n + 1)) cells
      ∙ ap (map mean) (ap (between (m * (3 * n + 1)) (m * (3 * n + 1) + (6 * n + 1))) (sym (append_assoc r q (h1 ++ h2)))
      ∙ part_at (r ++ q) h1 h2 (m * (3 * n + 1)) (m * (3 * n + 1) + (6 * n + 1)) rows_long (omega arith))

  h2_is : drop (m * (3 * n + 1) + (6 * n + 1)) (map mean cells) ≡ map mean h2
  unfolding cells
  h2_is =
      drop-map mean (m * (3 * n + 1) + (6 * n + 1)) cells
      ∙ ap (map mean) (ap (drop (m * (3 * n + 1) + (6 * n + 1))) (sym (append_assoc r q (h1 ++ h2)) ∙ sym (append_assoc (r ++ q) h1 h2))
      ∙ drop_at (r ++ q ++ h1) h2 (m * (3 * n + 1) + (6 * n + 1)) end_long)

  is_made : made (map mean r) (map mean q) (map mean h1) (map mean h2) ≡ reply_in m n (map mean cells)
  unfolding made
  is_made =
      ap (λ l. made l (map mean q) (map mean h1) (map mean h2)) (sym r_is) ∙ ap (λ l. made (take (3 * n + 1) (map mean cells)) l (map mean h1) (map mean h2)) (sym q_is)
      ∙ ap₂ (made (take (3 * n + 1) (map mean cells)) (between (3 * n + 1) (m * (3 * n + 1)) (map mean cells))) (sym h1_is) (sym h2_is)

  pub assembled : Divided f mean reduced c.statement.matrix.now α q r
      → Solution f mean reduced (3 * n) v1 (coeff f (map mean r)) (wires f (claim_of mean c)) h1
      → Solution f mean reduced (n - 1) v2 (left_scaled f (claim_of mean c) β) (coeff f (map mean c.wires.right.now)) h2
      → Replied f (claim_of mean c) (reply_in m n (map mean (r ++ (q ++ (h1 ++ h2))))) α β v1 v2
  unfolding made cells
  assembled division first second =
      subst (λ (p : Reply K). Replied f (claim_of mean c) p α β v1 v2) is_made (record {
        honest = record {
          divided = subst (λ (w : ℕ). Divides f (map mean c.statement.matrix.now) w α (map mean q) (map mean r)) r_long division.divides;
          h1_is = first.solves;
          h2_is = second.solves;
        };
        free1 = first.free;
        free2 = second.free;
        r_long = length-map r mean ∙ r_long;
        q_long = length-map q mean ∙ q_long;
        h1_long = length-map h1 mean ∙ h1_long;
        h2_long = length-map h2 mean ∙ h2_long;
      })
