-- A field's test for sameness decides equality.
use Rattle.std.proofs.Common.{◌≡◌, Bool, true, false, Decides, refl}
use Rattle.field.specs.Field.{Ops, Laws}

pub decides_same : {K : Type 0} (f : Ops K) → Laws f → (a b : K) → Decides (f.same a b) (a ≡ b)
decides_same f laws a b = (laws.same_yes a b, λ e. go (f.same a b) refl e)
  where
    go : (y : Bool) → f.same a b ≡ y → a ≡ b → f.same a b ≡ true
    go true h e = h
    go false h e = absurd (laws.same_no a b h e)
