-- Why an accepted claim can be trusted, over one field: all theorems together.
use Rattle.field.specs.Field.{Ops}
use Rattle.algebra.specs.Theorems.{RootBound, Sound, FewAlpha, FewBeta, FewZ, Ends, Complete}

-- the root bound, soundness, how many challenges are lucky, and completeness
pub record Acceptance {K : Type 0} (f : Ops K) : Type 0 where
  pub roots : RootBound f
  pub sound : Sound f
  pub few_alpha : FewAlpha f
  pub few_beta : FewBeta f
  pub few_z : FewZ f
  pub ends : Ends f
  pub complete : Complete f
