-- A table of inverses, read at one place.
use Rattle.std.proofs.Common.{◌≡◌, ℕ, zero, suc, ◌+◌, ◌<◌, min, true, List, [], ◌∷◌, length, get_or, le_of_suc-le-suc, not-suc-le-zero, add-zero, add-suc, suc-add, zero-add, eqb-true}
use Rattle.std.proofs.lemmas.Bool.{and_parts}
use Rattle.gf256.specs.Gf256.{times, inverts}

from : (xs : List ℕ) (k a : ℕ) → inverts k xs ≡ true → a < length xs → times (k + a) (get_or xs a 0) ≡ min (k + a) 1
from [] k a t h = absurd (not-suc-le-zero h)
from (x ∷ xs) k zero t h = rw add-zero (eqb-true (times k x) (min k 1) (and_parts _ _ t).0)
from (x ∷ xs) k (suc a) t h = rw (add-suc, ← suc-add) (from xs (suc k) a (and_parts _ _ t).1 (le_of_suc-le-suc h))

pub tabled : (xs : List ℕ) (a : ℕ) → inverts 0 xs ≡ true → a < length xs → times a (get_or xs a 0) ≡ min a 1
tabled xs a t h = rw zero-add at (from xs 0 a t h)
