use Rattle.std.proofs.Common.{sym, subst}
use Rattle.claim_file.specs.Answer.{meaning}
use Rattle.claim_file.specs.declared.FieldName.{FieldName}
use Rattle.claim_check.specs.Outcome.{AuditsIn}
use Rattle.claim_check.proofs.Texts.{as_bytes, answers}
use Rattle.claim_check.proofs.check_text.Goals as goal

pub returns : goal.returns
returns c =
    let claim = meaning c.in_ok-claim.claim in
    let r = c.audit_words-in-Gf256.result in
    answers c.args.text.now claim r c.in_ok-claim.ensures
    (subst (λ (n : FieldName). AuditsIn n claim r) (sym c.in-Gf256.is) (as_bytes claim r c.audit_words-in-Gf256.ensures))
