-- The claim that values stand for, where the values are those of words.
use Rattle.std.proofs.Common.{◌≡◌, ℕ, List, map, vec_items, ap, ◌∙◌}
use mathlib.Core.List.{map-map}
use Rattle.prover.specs.Claims.{claim_of}
use Rattle.prover.specs.Owned.{owned_claim, Lends}
use Rattle.prover.specs.declared.claim.Claim.{Claim as LentClaim}
use Rattle.prover.specs.declared.owned.OwnedClaim.{OwnedClaim}
use Rattle.prover.proofs.OwnedClaims.{lent_claim}
use Rattle.claim_file.specs.Grammar.{Claim}
use Rattle.claim_check.specs.Outcome.{stated}
use Rattle.claim_check.specs.Values.{ValuesOf}

module _ {X K : Type 0} (mean : X → K) (element : ℕ → X) (c : Claim) (values : OwnedClaim X) (v : ValuesOf element c values) where
  stand : (xs : List X) (words : List ℕ) → xs ≡ map element words → map mean xs ≡ map (λ w. mean (element w)) words
  stand xs words e = ap (map mean) e ∙ map-map mean element words

  valued : owned_claim mean values ≡ stated (λ w. mean (element w)) c
  valued =
      cc (
        stand (vec_items values.matrix) c.matrix v.matrix,
        stand (vec_items values.vector) c.vector v.vector,
        stand (vec_items values.left) c.left v.left,
        stand (vec_items values.right) c.right v.right,
        stand (vec_items values.out) c.out v.out,
        v.rows,
        v.gates,
      )

  -- the same of what they lend
  pub lent_values : (l : LentClaim X) → Lends values l → claim_of mean l ≡ stated (λ w. mean (element w)) c
  lent_values l h = lent_claim mean values l h ∙ valued
