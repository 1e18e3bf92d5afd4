use Rattle.claim_file.proofs.ReadBack.{reads_back}
use Rattle.claim_file.proofs.reads_back.Goals as goal

pub returns : goal.returns
returns c = reads_back
