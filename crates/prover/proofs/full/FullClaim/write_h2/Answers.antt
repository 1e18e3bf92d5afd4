use Rattle.std.proofs.Common.{◌≡◌, ◌+◌, ◌-◌, ◌*◌, map, length, ap, ◌∙◌, ap₂, arith}
use mathlib.Core.Path.{fun_ext}
use Rattle.std.proofs.lemmas.List.FromFn.{get_or-map-range_with_len}
use Rattle.field.specs.Field.{power}
use Rattle.algebra.specs.Polynomials.{coeff, middle}
use Rattle.algebra.specs.Proofs.{left_scaled}
use Rattle.prover.specs.Claims.{claim_of}
use Rattle.prover.proofs.Replies.{solution}
use Rattle.prover.proofs.full.FullClaim.write_h2.Goals as goal

pub returns : goal.returns
returns g c =
    let f = g.F.Field in
    let self = c.args.self.now in
    let d = self.claim.statement.n - 1 in
    let x = f.mean c.args.beta in
    let a = left_scaled f.ops (claim_of f.mean self.claim) x in
    let b = coeff f.ops (map f.mean self.claim.wires.right.now) in
    let scaled = c.scale.new.p in
    let product = rw c.unwrap.ensures at c.middle_product.ensures in
    let solved = rw c.unwrap-2.ensures at c.solve_twist.ensures in
    let is_scaled : coeff f.ops (map f.mean scaled) ≡ a =
    fun_ext (λ i. c.scale.ensures i ∙ ap (λ l. f.ops.mul (power f.ops x i) (coeff f.ops (map f.mean l) i)) c.copy_from_slice.ensures.after) in
    let long : length scaled - 1 ≡ d = omega (arith, c.requires.scaled_long) in
    solution f.ops f.mean f.reduced d (f.mean c.args.free) a b c.middle_product.new.out c.solve_twist.new.cells
    (λ k l. ap (λ ks. coeff f.ops ks k) product.1.means
    ∙ get_or-map-range_with_len (middle f.ops (length scaled - 1) (coeff f.ops (map f.mean scaled)) b) 0 (2 * (length scaled - 1) + 1) k k f.ops.nil (omega arith) (omega arith)
    ∙ ap₂ (λ e w. middle f.ops e w b k) long is_scaled)
    solved.1
