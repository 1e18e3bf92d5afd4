use Rattle.std.proofs.Common.{map, sym, ap, ◌∙◌, arith}
use Rattle.std.proofs.lemmas.List.{length-map}
use Rattle.oracle.specs.Standing.{answer_by}
use Rattle.session.proofs.Opens.{matrix_fits, vector_fits, open_is, fits_if}
use Rattle.session.proofs.state.Session.openable.Goals as goal

pub room-requires-clause-short_matrix : goal.room-requires-clause-short_matrix
room-requires-clause-short_matrix g c =
    let f = g.O.Elem.Field in
    let xs = c.args.statement.matrix.now in
    omega (arith, length-map xs f.mean, matrix_fits f.ops (g.O.Oracle.stand c.args.self.now.oracle f) c.args.statement.m c.args.statement.n (map f.mean xs) (map f.mean c.args.statement.vector.now) (sym c.if-not-in_range.ensures) (sym c.if-not-in_shape.ensures))

pub room-requires-clause-short_vector : goal.room-requires-clause-short_vector
room-requires-clause-short_vector g c =
    let f = g.O.Elem.Field in
    let ys = c.args.statement.vector.now in
    omega (arith, length-map ys f.mean, vector_fits f.ops (g.O.Oracle.stand c.args.self.now.oracle f) c.args.statement.m c.args.statement.n (map f.mean c.args.statement.matrix.now) (map f.mean ys) (sym c.if-not-in_range.ensures) (sym c.if-not-in_shape.ensures))

pub returns : goal.returns
returns g c =
    let f = g.O.Elem.Field in
    let st = g.O.Oracle.stand c.args.self.now.oracle f in
    let xs = map f.mean c.args.statement.matrix.now in
    let ys = map f.mean c.args.statement.vector.now in
    let range = sym c.if-not-in_range.ensures in
    let shape = sym c.if-not-in_shape.ensures in
    record {
      answer = c.room.ensures ∙ ap answer_by (sym (open_is f.ops st c.args.statement.m c.args.statement.n xs ys range shape));
      fits = fits_if f.ops st c.args.statement.m c.args.statement.n xs ys range shape c.room.result c.room.ensures;
    }
