use Rattle.std.proofs.Common.{◌≡◌, ℕ, ◌+◌, ◌-◌, ◌*◌, ◌<◌, eqb, Some, length, sym, ap, ◌∙◌, arith}
use Rattle.std.specs.Option.{option_eq}
use Rattle.std.proofs.lemmas.Bool.{both_ways, eqb-true, eq-eqb}
use Rattle.quadratic.specs.Systems.{system_of, term}
use Rattle.quadratic.specs.Positions.{first}
use Rattle.quadratic.specs.Encodings.{equation_cell}
use Rattle.quadratic.proofs.Searches.{name_below, placed}
use Rattle.quadratic.proofs.Cells.{constant_cell, output_cell, first_cell, later_cell}
use Rattle.quadratic.proofs.matrix.Matrix.equation_cell.Goals as goal

pub returns-then-j-eq0 : goal.returns-then-j-eq0
returns-then-j-eq0 g c =
    let f = g.F.Field in
    let s = c.args.self.now in
    let system = system_of f.mean s.system.variables s.system.pairs.now s.system.coefficients.now in
    c.term.ensures ∙ sym (ap (equation_cell f.ops system c.args.k) c.if-j-eq0.true ∙ constant_cell f.ops g.met.F.Field.lawful system s.ready.used c.args.k)

pub returns-then-j-positions : goal.returns-then-j-positions
returns-then-j-positions g c =
    let f = g.F.Field in
    let s = c.args.self.now in
    let system = system_of f.mean s.system.variables s.system.pairs.now s.system.coefficients.now in
    let gate : ℕ = c.args.j - 1 - 2 * length s.system.pairs.now in
    let place : s.system.variables + (c.args.j - 2 * length s.system.pairs.now) ≡ 1 + s.system.variables + gate = omega arith in
    c.term-then-j-positions.ensures ∙ ap (term f.ops system c.args.k) place
    ∙ sym (output_cell f.ops g.met.F.Field.lawful system s.ready.used c.args.k c.args.j gate (omega arith) (omega arith))

pub overflow_add-i : goal.overflow_add-i
overflow_add-i g c = grind (arith, name_below)

pub term-requires-then-eq-clause-column : goal.term-requires-then-eq-clause-column
term-requires-then-eq-clause-column g c = grind (arith, name_below)

pub returns-then-eq : goal.returns-then-eq
returns-then-eq g c =
    let f = g.F.Field in
    let s = c.args.self.now in
    let pairs = s.system.pairs.now in
    let system = system_of f.mean s.system.variables pairs s.system.coefficients.now in
    let i = c.variable_at-i.result in
    let p : ℕ = c.args.j - 1 in
    let found = placed pairs i p (omega arith) c.variable_at-i.ensures in
    let test : c.eq.result ≡ eqb (first pairs i) p = c.eq.ensures ∙ ap (λ o. option_eq eqb o (Some p)) (c.first_position.ensures ∙ found) in
    let below : i < s.system.variables = grind (arith, name_below) in
    c.term-then-eq.ensures
    ∙ sym (first_cell f.ops g.met.F.Field.lawful system s.ready.used c.args.k c.args.j p i (omega arith) (omega arith) c.variable_at-i.ensures below (eqb-true (first pairs i) p (sym test ∙ c.if-eq.true)))

pub returns-else-eq : goal.returns-else-eq
returns-else-eq g c =
    let f = g.F.Field in
    let s = c.args.self.now in
    let pairs = s.system.pairs.now in
    let system = system_of f.mean s.system.variables pairs s.system.coefficients.now in
    let i = c.variable_at-i.result in
    let p : ℕ = c.args.j - 1 in
    let found = placed pairs i p (omega arith) c.variable_at-i.ensures in
    let test : c.eq.result ≡ eqb (first pairs i) p = c.eq.ensures ∙ ap (λ o. option_eq eqb o (Some p)) (c.first_position.ensures ∙ found) in
    c.zero.ensures.means
    ∙ sym (later_cell f.ops g.met.F.Field.lawful system s.ready.used c.args.k c.args.j p i (omega arith) (omega arith) c.variable_at-i.ensures
    (λ e. both_ways c.eq.result c.if-eq.false (test ∙ eq-eqb (first pairs i) p e)))
