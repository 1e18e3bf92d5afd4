-- The values that the words of a claim stand for.
use Rattle.std.specs.Prelude.{◌≡◌, ℕ, map, vec_items}
use Rattle.prover.specs.declared.owned.OwnedClaim.{OwnedClaim}
use Rattle.claim_file.specs.Grammar.{Claim}

-- a claim with the sizes of c, and in each list the value of each word
pub record ValuesOf {X : Type 0} (element : ℕ → X) (c : Claim) (values : OwnedClaim X) : Type 0 where
  pub rows : values.m ≡ c.m
  pub gates : values.n ≡ c.n
  pub matrix : vec_items values.matrix ≡ map element c.matrix
  pub vector : vec_items values.vector ≡ map element c.vector
  pub left : vec_items values.left ≡ map element c.left
  pub right : vec_items values.right ≡ map element c.right
  pub out : vec_items values.out ≡ map element c.out
