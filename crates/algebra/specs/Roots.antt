-- Lists of pairwise distinct values.
use Rattle.std.specs.Prelude.{List, [], ◌∷◌, ◌≢◌}

-- P holds of every entry
abbrev pub Each : {K : Type 0} → (K → Type 0) → List K → Type 0
Each P [] = Unit {0}
Each P (x ∷ xs) = P x × Each P xs

-- no entry equals a later one
abbrev pub Distinct : {K : Type 0} → List K → Type 0
Distinct [] = Unit {0}
Distinct (x ∷ xs) = Each (λ y. y ≢ x) xs × Distinct xs
