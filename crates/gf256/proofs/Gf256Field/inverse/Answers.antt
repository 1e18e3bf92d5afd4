use Rattle.std.proofs.Common.{rules}
use Rattle.gf256.specs.Laws.{reciprocals}
use Rattle.gf256.proofs.Gf256Field.inverse.Goals as goal

pub returns-clause-means : goal.returns-clause-means
returns-clause-means c = reciprocals c.args.self.0 c.in_ok-inverted.inverted (search rules) (search rules) (search rules)
