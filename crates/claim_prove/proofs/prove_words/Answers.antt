use Rattle.std.proofs.Common.{ap}
use Rattle.claim_file.specs.Answer.{meaning}
use Rattle.claim_check.proofs.Lists.{lent_values}
use Rattle.claim_prove.specs.Proofs.{Written, without_vector}
use Rattle.claim_prove.proofs.Spellings.{any_vector}
use Rattle.claim_prove.proofs.prove_words.Goals as goal

pub returns : goal.returns
returns g c =
    let f = g.F.Field in
    let element = g.F.Encoded.element in
    let claim = meaning c.args.claim.now in
    let at = c.args.at in
    let same = lent_values f.mean element (without_vector claim) c.in_ok-values.values c.in_ok-values.ensures c.lent.result c.lent.ensures in
    any_vector f.ops (λ w. f.mean (element w)) (Written g.F.Encoded.spelling) claim (f.mean (element at.alpha)) (f.mean (element at.beta)) (f.mean (element at.free1)) (f.mean (element at.free2)) c.prove_values.result
    (rw (ap f.mean c.from_word.ensures, ap f.mean c.from_word-2.ensures, ap f.mean c.from_word-3.ensures, ap f.mean c.from_word-4.ensures, same) at c.prove_values.ensures)
