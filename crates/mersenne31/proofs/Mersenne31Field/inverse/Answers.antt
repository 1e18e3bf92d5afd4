use Rattle.std.proofs.Common.{◌≡◌, rules}
use Rattle.field.proofs.Numbers.{below_path}
use Rattle.mersenne31.specs.Mersenne31.{p, rem}
use Rattle.mersenne31.specs.Laws.{reciprocals}
use Rattle.mersenne31.proofs.Mersenne31Field.inverse.Goals as goal

pub returns-in_err-inverted-clause-means : goal.returns-in_err-inverted-clause-means
returns-in_err-inverted-clause-means c =
    let none : rem c.args.self.0 ≡ rem 0 = below_path p (search rules) in
    search rules

pub returns-clause-means : goal.returns-clause-means
returns-clause-means c = reciprocals c.args.self.0 c.in_ok-inverted.inverted (search rules)
