-- What holds where no refusal fits.
use Rattle.std.proofs.Common.{◌≡◌, ℕ, ◌+◌, ◌*◌, not, ◌&&◌, eqb, ltb, List, length, None, arith}
use Rattle.std.specs.List.{range_with_len}
use Rattle.std.proofs.lemmas.List.FromFn.{length-range_with_len}
use Rattle.std.proofs.lemmas.Bool.Decides.{nat_tests}
use Rattle.quadratic.specs.Positions.{first, stray, unused}
use Rattle.quadratic.specs.Refusals.{refusal}
use Rattle.quadratic.proofs.Searches.{first_le}

pub record Accepted (v : ℕ) (pairs : List (ℕ × ℕ)) (coefficients signature e : ℕ) : Type 0 where
  pub signed : signature ≡ v
  pub full : coefficients ≡ e * (1 + v + length pairs)
  pub tame : stray v pairs ≡ length pairs
  pub used : unused v pairs ≡ v

pub accepted : (v : ℕ) (pairs : List (ℕ × ℕ)) (coefficients signature e : ℕ) → refusal v pairs coefficients signature e ≡ None → Accepted v pairs coefficients signature e
accepted v pairs coefficients signature e none =
    let upto = first_le (λ (q : ℕ × ℕ). not (ltb q.0 v && ltb q.1 v)) pairs in
    let all = first_le (λ i. eqb (first pairs i) (2 * length pairs)) (range_with_len 0 v) in
    let long = length-range_with_len 0 v in
    record {
      signed = grind (arith, nat_tests);
      full = grind (arith, nat_tests);
      tame = grind (arith, nat_tests);
      used = grind (arith, nat_tests);
    }
