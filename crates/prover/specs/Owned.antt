-- Claims that own their lists.
use Rattle.std.specs.Prelude.{◌≡◌, vec_items}
use Rattle.algebra.specs.Relation.{Claim}
use Rattle.prover.specs.Claims.{claimed}
use Rattle.prover.specs.declared.claim.Claim.{Claim as LentClaim}
use Rattle.prover.specs.declared.owned.OwnedClaim.{OwnedClaim}

-- the claim that owned values stand for
abbrev pub owned_claim : {X K : Type 0} → (X → K) → OwnedClaim X → Claim K
owned_claim mean c = claimed mean c.m c.n (vec_items c.matrix) (vec_items c.vector) (vec_items c.left) (vec_items c.right) (vec_items c.out)

-- the lent claim has the sizes and the lists of the owned one
pub record Lends {X : Type 0} (c : OwnedClaim X) (l : LentClaim X) : Type 0 where
  pub rows : l.statement.m ≡ c.m
  pub gates : l.statement.n ≡ c.n
  pub matrix : l.statement.matrix.now ≡ vec_items c.matrix
  pub vector : l.statement.vector.now ≡ vec_items c.vector
  pub left : l.wires.left.now ≡ vec_items c.left
  pub right : l.wires.right.now ≡ vec_items c.right
  pub out : l.wires.out.now ≡ vec_items c.out
