-- A loop that writes t i at each place i of a slice, read by what its cells mean.
use Rattle.std.proofs.Common.{◌≡◌, ℕ, ◌+◌, ◌<◌, ◌≤◌, List, map, length, take, set, sym, ◌∙◌, subst, arith}
use native.Mathlib.Decide.{dec_lt}
use Rattle.std.specs.List.{range_with_len, AllByRecursion}
use Rattle.std.proofs.lemmas.List.{length-map, take_all, take_more_set}
use Rattle.std.proofs.lemmas.List.FromFn.{fill_by_all}
use Rattle.std.proofs.ByRecursion.{All-push}
use Rattle.field.specs.Field.{Ops}
use Rattle.algebra.specs.Polynomials.{coeff}
use Rattle.polynomial.proofs.Coefficients.{coeff_set, coeff_set_other}

-- the first i cells stand for t 0, t 1, .., and are reduced
pub record Filled {X K : Type 0} (f : Ops K) (mean : X → K) (reduced : X → Type 0) (t : ℕ → K) (xs : List X) (i : ℕ) : Type 0 where
  pub means : (k : ℕ) → k < i → coeff f (map mean xs) k ≡ t k
  pub tidy : AllByRecursion reduced (take i xs)

module _ {X K : Type 0} {f : Ops K} {mean : X → K} {reduced : X → Type 0} {t : ℕ → K} {xs : List X} {i : ℕ} where
  pub filled_more : (y : X) → i < length xs → Filled f mean reduced t xs i → mean y ≡ t i → reduced y → Filled f mean reduced t (set xs i y) (i + 1)
  filled_more y h was e r = record {
    means = λ k l. elim (dec_lt k i) [
      | yes b ↦ coeff_set_other f mean xs i k y (λ o. omega arith) ∙ was.means k b
      | no b ↦ let o : k ≡ i = omega arith in subst (λ (j : ℕ). coeff f (map mean (set xs i y)) j ≡ t j) (sym o) (coeff_set f mean xs i y h ∙ e)
    ];
    tidy = subst (AllByRecursion reduced) (sym (take_more_set xs i y h)) (All-push reduced (take i xs) y was.tidy r);
  }

  pub all_tidy : length xs ≤ i → Filled f mean reduced t xs i → AllByRecursion reduced xs
  all_tidy h was = subst (AllByRecursion reduced) (take_all i xs h) was.tidy

  -- as a list
  pub filled_all : (n : ℕ) → length xs ≡ n → n ≤ i → Filled f mean reduced t xs i → map mean xs ≡ map t (range_with_len 0 n)
  filled_all n e h was = fill_by_all t (map mean xs) n f.nil (length-map xs mean ∙ e) (λ k l. was.means k (omega arith))
