use Rattle.std.proofs.Common.{Ok, subst}
use Rattle.algebra.specs.Relation.{Claim}
use Rattle.prover.specs.Findings.{Audited}
use Rattle.claim_file.specs.Answer.{meaning}
use Rattle.claim_check.proofs.Lists.{lent_values}
use Rattle.claim_check.proofs.audit_words.Goals as goal

pub returns : goal.returns
returns g c =
    let f = g.F.Field in
    subst (λ (s : Claim f.K). Audited f.ops s (Ok c.in_ok-found.found))
    (lent_values f.mean g.F.Encoded.element (meaning c.args.claim.now) c.in_ok-values.values c.in_ok-values.ensures c.lent.result c.lent.ensures) c.in_ok-found.ensures
