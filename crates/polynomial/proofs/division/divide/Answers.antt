use Rattle.std.proofs.Common.{◌≡◌, ℕ, ◌+◌, map, length, ap, ◌∙◌, arith}
use Rattle.std.proofs.lemmas.List.{length-map}
use Rattle.algebra.proofs.Polynomials.{divides}
use Rattle.polynomial.specs.Cells.{carried}
use Rattle.polynomial.proofs.division.divide.Goals as goal

pub returns : goal.returns
returns g c =
    let f = g.F.Field in
    let p = map f.mean c.args.p.now in
    let v = f.mean c.args.alpha in
    let r = c.fill_remainder.new.remainder in
    let q = c.write_quotient.new.quotient in
    let (fit, stepped) = c.in_ok-write_quotient.ensures in
    let kept : length c.args.remainder.now ≡ length r = omega arith in
    let steps = λ (k : ℕ). stepped.steps k ∙ ap (λ n. carried f.ops p v (map f.mean q) (k + n)) kept in (
      fit,
      record {
        divides = divides f.ops g.met.F.Field.lawful p (map f.mean q) (map f.mean r) (length r) v (omega (arith, fit.some)) (length-map r f.mean) steps c.fill_remainder.ensures.rests;
        quotient_tidy = stepped.tidy;
        remainder_tidy = c.fill_remainder.ensures.tidy;
      },
    )
