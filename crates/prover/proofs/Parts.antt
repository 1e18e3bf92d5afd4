-- Parts of a list by what they mean; the product of a row and the wires, and an entry of a middle product.
use Rattle.std.proofs.Common.{◌≡◌, ℕ, zero, suc, ◌+◌, ◌-◌, ◌*◌, ◌<◌, ◌≤◌, min, List, map, length, get_or, take, drop, sym, refl, ap, ◌∙◌, ap₂, arith}
use Rattle.std.specs.List.{between}
use Rattle.std.proofs.lemmas.List.{length-map, take-map, drop-map, get_or-take, get_or-drop}
use Rattle.std.proofs.lemmas.List.Edits.{length-between}
use Rattle.std.proofs.lemmas.Nat.{mul-add-lt}
use Rattle.field.specs.Field.{Ops, Laws}
use Rattle.algebra.specs.Sums.{sum}
use Rattle.algebra.specs.Polynomials.{coeff, middle}
use Rattle.algebra.specs.Relation.{wires, row}
use Rattle.algebra.proofs.Sums.{sum_ext, sum_last}
use Rattle.algebra.proofs.Relation.{wires_left, wires_right, wires_out}
use Rattle.polynomial.specs.Cells.{inner}
use Rattle.polynomial.proofs.Coefficients.{coeff_read}
use Rattle.polynomial.proofs.Stretches.{inner_sum, stretch}
use Rattle.prover.specs.Claims.{claim_of}
use Rattle.prover.specs.declared.claim.Claim.{Claim}

module _ {X K : Type 0} (mean : X → K) where
  pub map_part : (a e : ℕ) (xs : List X) → between a e (map mean xs) ≡ map mean (between a e xs)
  map_part a e xs = ap (take (e - a)) (drop-map mean a xs) ∙ take-map mean (e - a) (drop a xs)

  pub coeff_part : (f : Ops K) (a e i : ℕ) (xs : List X) → i < e - a → coeff f (map mean (between a e xs)) i ≡ coeff f (map mean xs) (a + i)
  coeff_part f a e i xs h =
      ap (λ ks. coeff f ks i) (sym (map_part a e xs)) ∙ get_or-take (e - a) (drop a (map mean xs)) i f.nil h ∙ get_or-drop a (map mean xs) i f.nil

-- a row's product with (1, wl, wr, wo), stretch by stretch
module _ {X K : Type 0} (f : Ops K) (laws : Laws f) (mean : X → K) where
  -- the first n terms and the m behind them
  sum_split : (n m t : ℕ) (c : ℕ → K) → t ≡ n + m → sum f t c ≡ f.add (sum f n c) (sum f m (λ i. c (n + i)))
  sum_split n zero t c e = let g : t ≡ n = omega arith in ap (λ k. sum f k c) g ∙ sym (laws.add_nil (sum f n c))
  sum_split n (suc m) zero c e = absurd (omega arith)
  sum_split n (suc m) (suc t) c e =
      let g : t ≡ n + m = omega arith in
      sum_last f laws t c ∙ ap₂ f.add (sum_split n m t c g) (ap c g) ∙ laws.add_assoc (sum f n c) (sum f m (λ i. c (n + i))) (c (n + m))
      ∙ ap (f.add (sum f n c)) (sym (sum_last f laws m (λ i. c (n + i))))

  -- the first s entries' product, and that of those from s to e, where a wire stands over them
  wire_more : (s e : ℕ) (list wire : List X) (w : ℕ → K) (y : K) → e ≡ s + length wire → ((t : ℕ) → t < length wire → w (s + t) ≡ coeff f (map mean wire) t)
      → y ≡ sum f s (λ j. f.mul (coeff f (map mean list) j) (w j))
      → f.add y (inner f (map mean (between s e list)) (map mean wire)) ≡ sum f e (λ j. f.mul (coeff f (map mean list) j) (w j))
  wire_more s e list wire w y long over is =
      let term = λ (j : ℕ). f.mul (coeff f (map mean list) j) (w j) in
      ap₂ f.add is
      (inner_sum f laws (map mean (between s e list)) (map mean wire) (length wire) (omega (arith, length-map wire mean))
      ∙ sum_ext f laws (length wire) (λ t. f.mul (coeff f (map mean (between s e list)) t) (coeff f (map mean wire) t)) (λ t. term (s + t))
      (λ t l. ap₂ f.mul (coeff_part mean f s e t list (omega arith)) (sym (over t l))))
      ∙ sym (sum_split s (length wire) e term long)

  module _ (c : Claim X) where
    abbrev n : ℕ
    n = c.statement.n

    pub row_parts : (i : ℕ) (list : List X) (x : X) → i < c.statement.m → length c.statement.matrix.now ≡ c.statement.m * (3 * n + 1)
        → length c.wires.left.now ≡ n → length c.wires.right.now ≡ n → length c.wires.out.now ≡ n
        → list ≡ between (i * (3 * n + 1)) (i * (3 * n + 1) + (3 * n + 1)) c.statement.matrix.now → x ≡ get_or list 0 x
        → f.add (f.add (f.add (mean x) (inner f (map mean (between 1 (n + 1) list)) (map mean c.wires.left.now)))
        (inner f (map mean (between (n + 1) (2 * n + 1) list)) (map mean c.wires.right.now)))
        (inner f (map mean (between (2 * n + 1) (length list) list)) (map mean c.wires.out.now)) ≡ row f (claim_of mean c) i
    row_parts i list x h long left right out e first =
        let s = claim_of mean c in
        let w = wires f s in
        let xs = c.statement.matrix.now in
        let a : ℕ = i * (3 * n + 1) in
        let last : i * (3 * n + 1) + 3 * n < c.statement.m * (3 * n + 1) = omega (arith, mul-add-lt i (3 * n + 1) (3 * n) c.statement.m h (omega arith)) in
        let entries : length list ≡ 3 * n + 1 = ap length e ∙ length-between xs a (a + (3 * n + 1)) (omega arith) ∙ (omega arith) in
        let alone = coeff_read f mean list 0 x (omega arith) first ∙ sym (laws.mul_one (coeff f (map mean list) 0)) ∙ sym (laws.add_nil (f.mul (coeff f (map mean list) 0) f.one)) in
        wire_more (2 * n + 1) (length list) list c.wires.out.now w _ (omega arith) (λ t l. wires_out f s (2 * n + 1 + t) t (omega arith))
        (wire_more (n + 1) (2 * n + 1) list c.wires.right.now w _ (omega arith) (λ t l. wires_right f s (n + 1 + t) t (omega arith) (omega arith))
        (wire_more 1 (n + 1) list c.wires.left.now w _ (omega arith) (λ t l. wires_left f s (1 + t) t refl (omega arith)) alone))
        ∙ ap (λ k. sum f k (λ j. f.mul (coeff f (map mean list) j) (w j))) entries
        ∙ sum_ext f laws (3 * n + 1) (λ j. f.mul (coeff f (map mean list) j) (w j)) (λ j. f.mul (coeff f (map mean xs) (a + j)) (w j))
        (λ j l. ap (λ y. f.mul y (w j)) (ap (λ l. coeff f (map mean l) j) e ∙ coeff_part mean f a (a + (3 * n + 1)) j xs (omega arith)))

-- a row's product with the wires
module _ {X K : Type 0} (f : Ops K) (laws : Laws f) (mean : X → K) (c : Claim X) where
  pub row_is : (i : ℕ) (list : List X) → i < c.statement.m → length c.statement.matrix.now ≡ c.statement.m * (3 * c.statement.n + 1)
      → list ≡ between (i * (3 * c.statement.n + 1)) (i * (3 * c.statement.n + 1) + (3 * c.statement.n + 1)) c.statement.matrix.now
      → sum f (length list) (λ j. f.mul (coeff f (map mean list) j) (wires f (claim_of mean c) (0 + j))) ≡ row f (claim_of mean c) i
  row_is i list h long e =
      let xs = c.statement.matrix.now in
      let w : ℕ = 3 * c.statement.n + 1 in
      let a : ℕ = i * w in
      let last : i * w + 3 * c.statement.n < c.statement.m * w = omega (arith, mul-add-lt i w (3 * c.statement.n) c.statement.m h (omega arith)) in
      let entries : length list ≡ w = ap length e ∙ length-between xs a (a + w) (omega arith) ∙ (omega arith) in
      ap (λ n. sum f n (λ j. f.mul (coeff f (map mean list) j) (wires f (claim_of mean c) (0 + j)))) entries
      ∙ sum_ext f laws w (λ j. f.mul (coeff f (map mean list) j) (wires f (claim_of mean c) (0 + j))) (λ j. f.mul (coeff f (map mean xs) (a + j)) (wires f (claim_of mean c) j))
      (λ j l. let o : 0 + j ≡ j = omega arith in
      ap₂ f.mul (ap (λ l. coeff f (map mean l) j) e ∙ coeff_part mean f a (a + w) j xs (omega arith)) (ap (wires f (claim_of mean c)) o))

-- an entry of the middle product of a list and any other
module _ {X K : Type 0} (f : Ops K) (laws : Laws f) (mean : X → K) where
  pub product_is : (d k s p e : ℕ) (xs part : List X) (w : ℕ → K) → s ≡ k - d → p ≡ d - k → e ≡ min (k + 1) (d + 1) → length xs ≡ d + 1 → k ≤ d + d → part ≡ between s e xs
      → sum f (length part) (λ j. f.mul (coeff f (map mean part) j) (w (p + j))) ≡ middle f d (coeff f (map mean xs)) w k
  product_is d k s p e xs part w es ep ee long h is =
      let n : ℕ = e - s in
      let entries : length part ≡ n = ap length is ∙ length-between xs s e (omega arith) in
      ap (λ n. sum f n (λ j. f.mul (coeff f (map mean part) j) (w (p + j)))) entries
      ∙ sum_ext f laws n (λ j. f.mul (coeff f (map mean part) j) (w (p + j))) (λ j. f.mul (coeff f (map mean xs) (k - d + j)) (w (d - k + j)))
      (λ j l. let o : s + j ≡ k - d + j = omega arith in
      let u : p + j ≡ d - k + j = omega arith in
      ap₂ f.mul (ap (λ l. coeff f (map mean l) j) is ∙ coeff_part mean f s e j xs l ∙ ap (coeff f (map mean xs)) o) (ap w u))
      ∙ sym (stretch f laws d k n (coeff f (map mean xs)) w (omega arith))
