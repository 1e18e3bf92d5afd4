use Rattle.std.proofs.Common.{ap, ◌∙◌, arith}
use Rattle.polynomial.proofs.Coefficients.{coeff_read}
use Rattle.quadratic.proofs.Evaluation.{length-row, evaluated}
use Rattle.quadratic.proofs.system.System.evaluate.Goals as goal

pub returns : goal.returns
returns g c =
    let f = g.F.Field in
    let s = c.args.self in
    let row = c.in_ok-row.row.now in
    let system = c.in_ok-signed.ensures.system in
    let signature = c.in_ok-signed.ensures.signature in
    let fits = rw (system, signature) at c.in_ok-signed.signed.fits in
    let linear = rw (system, signature) at c.linear-linear.ensures in
    let quadratic = rw (system, signature) at c.quadratic-quadratic.ensures in
    let long = length-row s.coefficients.now row c.args.k _ c.in_ok-row.ensures.row c.in_ok-row.ensures.within in (
      record { stands = record { fits = fits; within = c.in_ok-row.ensures.within }; whole = c.in_ok-row.ensures.whole },
      c.plus-2.ensures.means
          ∙ ap (f.ops.add (f.mean c.index-row-0.result)) c.plus.ensures.means
          ∙ evaluated f.ops g.met.F.Field.lawful f.mean s.variables s.pairs.now s.coefficients.now row c.args.k c.in_ok-row.ensures.row long c.args.signature.now
          (f.mean c.index-row-0.result) (f.mean c.linear-linear.result) (f.mean c.quadratic-quadratic.result)
          (coeff_read f.ops f.mean row 0 c.index-row-0.result (omega arith) c.index-row-0.is) linear quadratic,
      c.plus-2.ensures.tidy,
    )
