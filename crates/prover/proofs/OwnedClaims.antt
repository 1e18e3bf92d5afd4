-- What is lent of an owned claim stands for the same claim.
use Rattle.std.proofs.Common.{◌≡◌}
use Rattle.prover.specs.Claims.{claim_of}
use Rattle.prover.specs.Owned.{owned_claim, Lends}
use Rattle.prover.specs.declared.claim.Claim.{Claim as LentClaim}
use Rattle.prover.specs.declared.owned.OwnedClaim.{OwnedClaim}

pub lent_claim : {X K : Type 0} (mean : X → K) (c : OwnedClaim X) (l : LentClaim X) → Lends c l → claim_of mean l ≡ owned_claim mean c
lent_claim mean c l h = cc
