use Rattle.std.proofs.Common.{rules, ◌≡◌, Some, ◌∙◌}
use Rattle.quadratic.specs.Positions.{first, name_at}
use Rattle.quadratic.proofs.Searches.{placed}
use Rattle.quadratic.proofs.matrix.Matrix.tie_cell.Goals as goal

pub unwrap-first-requires : goal.unwrap-first-requires
unwrap-first-requires g c =
    let pairs = c.args.self.now.system.pairs.now in
    let found : c.first_position.result ≡ Some (first pairs c.variable_at.result) = c.first_position.ensures ∙ placed pairs c.variable_at.result c.args.p c.requires c.variable_at.ensures in
    search rules

pub returns : goal.returns
returns g c =
    let pairs = c.args.self.now.system.pairs.now in
    let found = placed pairs c.variable_at.result c.args.p c.requires c.variable_at.ensures in
    let is : c.unwrap-first.result ≡ first pairs (name_at pairs c.args.p) = cc in
    search rules
