use Rattle.std.proofs.Common.{◌≡◌, ℕ, ◌+◌, ◌-◌, ◌<◌, ◌≤◌, List, ◌∷◌, map, length, drop, set, sym, ap, ◌∙◌, subst, ap₂, le_refl, arith}
use native.Mathlib.Decide.{dec_lt}
use Rattle.std.specs.List.{AllByRecursion}
use Rattle.std.proofs.lemmas.List.{drop_all, drop-set}
use Rattle.field.specs.Field.{Ops, Laws}
use Rattle.field.proofs.Ring.{mul_nil}
use Rattle.algebra.specs.Polynomials.{coeff}
use Rattle.polynomial.specs.Cells.{carried}
use Rattle.polynomial.proofs.Coefficients.{coeff_beyond, coeff_set, coeff_set_other}
use Rattle.polynomial.proofs.division.fill_quotient.Goals as goal

module _ {X K : Type 0} (f : Ops K) (mean : X → K) (p q : List X) (v : K) where
  -- past both ends nothing is carried
  none_carried : Laws f → (k : ℕ) → length p ≤ k → length q ≤ k → carried f (map mean p) v (map mean q) k ≡ f.nil
  none_carried laws k hp hq =
      ap₂ f.add (coeff_beyond f mean p k hp) (ap (f.mul v) (coeff_beyond f mean q k hq) ∙ mul_nil f laws v) ∙ laws.add_nil f.nil

  -- a coefficient that is written changes nothing that is carried above it
  carried_set : (k : ℕ) (y : X) (i : ℕ) → k < i → carried f (map mean p) v (map mean (set q k y)) i ≡ carried f (map mean p) v (map mean q) i
  carried_set k y i h = ap (λ x. f.add (coeff f (map mean p) i) (f.mul v x)) (coeff_set_other f mean q k i y (λ e. omega arith))

pub loop-k-init : goal.loop-k-init
loop-k-init g c =
    let f = g.F.Field in
    let q = c.args.quotient.now in (
      λ i h. coeff_beyond f.ops f.mean q i h
          ∙ sym (none_carried f.ops f.mean c.args.p.now q (f.mean c.args.alpha) g.met.F.Field.lawful (i + c.args.n) (omega arith) (omega arith)),
      subst (AllByRecursion f.reduced) (sym (drop_all (length q) q (le_refl (length q)))) tt,
    )

pub loop-k-preserved : goal.loop-k-preserved
loop-k-preserved g c =
    let f = g.F.Field in
    let p = c.args.p.now in
    let q = c.loop-k.quotient in
    let n = c.args.n in
    let v = f.mean c.args.alpha in
    let k : ℕ = c.loop-k.k - 1 in
    let y = c.carry.result in
    let within : k < length q = omega arith in
    let next : k + 1 ≡ c.loop-k.k = omega arith in
    let higher = λ (i : ℕ) (h : k < i + n). sym (carried_set f.ops f.mean p q v k y (i + n) h) in (
      λ i h. elim (dec_lt k i) [
        | yes l ↦ coeff_set_other f.ops f.mean q k i y (λ e. omega arith) ∙ c.loop-k.invariant.0 i (omega arith) ∙ higher i (omega arith)
        | no l ↦ let e : k ≡ i = omega arith in
            subst (λ (j : ℕ). coeff f.ops (map f.mean (set q k y)) j ≡ carried f.ops (map f.mean p) v (map f.mean (set q k y)) (j + n)) e
            (coeff_set f.ops f.mean q k y within ∙ c.carry.ensures.means ∙ higher k (omega arith))
      ],
      subst (AllByRecursion f.reduced) (sym (drop-set q k y within ∙ ap (λ j. y ∷ drop j q) next)) (c.carry.ensures.tidy, c.loop-k.invariant.1),
    )
