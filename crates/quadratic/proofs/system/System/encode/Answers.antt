use Rattle.std.proofs.Common.{length, refl}
use Rattle.quadratic.proofs.Accepts.{accepted}
use Rattle.quadratic.proofs.Searches.{named_all}
use Rattle.quadratic.proofs.Claims.{encodes}
use Rattle.quadratic.proofs.system.System.encode.Goals as goal

pub invariant_of-matrix : goal.invariant_of-matrix
invariant_of-matrix g c =
    let s = c.args.self in
    let shaped = rw c.in_ok-shape.ensures.ok_part at c.shape.ensures in
    let fits = accepted s.variables s.pairs.now (length s.coefficients.now) (length c.args.signature.now) (length c.args.digest.now) c.in_ok-check.ensures.ok in
    record { ready = record { tame = fits.tame; used = fits.used; full = fits.full; short = shaped.short; narrow = shaped.narrow }; shaped = shaped }

pub invariant_of-signed : goal.invariant_of-signed
invariant_of-signed g c =
    let s = c.args.self in
    let fits = accepted s.variables s.pairs.now (length s.coefficients.now) (length c.args.signature.now) (length c.args.digest.now) c.in_ok-check.ensures.ok in
    record { fits = record { signed = fits.signed; tame = fits.tame }; named = named_all s.pairs.now s.variables fits.tame }

pub returns : goal.returns
returns g c =
    let f = g.F.Field in
    let s = c.args.self in
    let shaped = rw c.in_ok-shape.ensures.ok_part at c.shape.ensures in
    encodes f.ops g.met.F.Field.lawful f.mean s.variables s.pairs.now s.coefficients.now c.args.signature.now c.args.digest.now
    (record {
      m = c.in_ok-shape.shape.rows;
      n = length s.pairs.now;
      matrix = c.in_ok-cells.field-0;
      vector = c.in_ok-fill_vector.field-0;
      left = c.in_ok-left.field-0;
      right = c.in_ok-right.field-0;
      out = c.in_ok-products.field-0;
    })
    c.in_ok-check.ensures.ok shaped.rows_are refl
    c.in_ok-cells.ensures c.in_ok-fill_vector.ensures c.in_ok-left.ensures c.in_ok-right.ensures c.in_ok-products.ensures
