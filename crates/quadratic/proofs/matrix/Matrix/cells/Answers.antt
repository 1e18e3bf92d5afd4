use Rattle.std.proofs.Common.{rules, ◌≡◌, ℕ, ◌+◌, ◌*◌, ◌/◌, ◌%◌, ◌<◌, map, length, vec_items, ap, ◌∙◌, subst, arith}
use Rattle.std.specs.List.{range_with_len}
use Rattle.std.specs.Result.{IfOk}
use Rattle.std.proofs.lemmas.Iterator.{YieldsList-from_range, YieldsList-from_map_by, serves_from_Range}
use Rattle.std.proofs.lemmas.Iterator.Consumers.{map_from_collect}
use Rattle.std.proofs.lemmas.Nat.{div_below, mod_below}
use Rattle.quadratic.specs.Systems.{system_of}
use Rattle.quadratic.specs.Encodings.{cell}
use Rattle.quadratic.proofs.matrix.Matrix.cells.Goals as goal

pub collect-requires-clause-can : goal.collect-requires-clause-can
collect-requires-clause-can g c =
    let s = c.args.self.now in
    let n = length s.system.pairs.now in
    let all : c.map.result.iter.end ≡ (s.equations + 2 * n) * (3 * n + 1) = ap (λ r. r.end) c.map.ensures.source ∙ s.shaped.cells_are in (
      tt,
      serves_from_Range (λ x q k. search rules)
          (λ x l h.
          let row : x / (3 * n + 1) < s.equations + 2 * n = div_below x (3 * n + 1) (s.equations + 2 * n) (omega arith) (omega (arith, all, h)) in
          let column : x % (3 * n + 1) < 3 * n + 1 = mod_below x (3 * n + 1) (omega arith) in
          search rules),
    )

pub returns : goal.returns
returns g c =
    let f = g.F.Field in
    let s = c.args.self.now in
    let width = 3 * length s.system.pairs.now + 1 in
    let read = λ (q : ℕ). cell f.ops (system_of f.mean s.system.variables s.system.pairs.now s.system.coefficients.now) s.equations (q / width) (q % width) in
    subst (λ k. IfOk c.collect.result (λ w. map f.mean (vec_items w) ≡ map read (range_with_len 0 k))) s.shaped.cells_are
    (map_from_collect c.collect.result c.collect.ensures.ran
    (YieldsList-from_map_by _ f.mean read (YieldsList-from_range 0 s.shape.cells s.shape.cells c.map.ensures.source (omega arith)) c.map.ensures.closure (λ x r q k. search rules)))
