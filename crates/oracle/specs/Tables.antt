-- How the entries of a table divide the stored items.
use Rattle.std.specs.Prelude.{ℕ, ◌+◌, Bool, ◌&&◌, List, [], ◌∷◌, map, take, drop, ◌==◌, nat_le}
use Rattle.oracle.specs.declared.table.Entry.{Entry}

-- the entry of count items from start on, which stand for long coefficients
abbrev pub entry_of : ℕ → ℕ → ℕ → Entry
entry_of start count long = record { start = start; count = count; long = long }

-- each entry has at most 16,384 items and begins where the one before it ends, the first at a, and the last ends at b
abbrev pub chained : ℕ → List Entry → ℕ → Bool
chained a [] b = a == b
chained a (e ∷ es) b = (e.start == a && nat_le e.count 16384) && chained (a + e.count) es b

-- what is stored of one polynomial: how many coefficients it has, and its items
pub record Kept (X : Type 0) : Type 0 where
  pub long : ℕ
  pub items : List X

abbrev pub kept : {X : Type 0} → ℕ → List X → Kept X
kept long items = record { long = long; items = items }

-- what the items are that belong to an entry
abbrev pub part : {X : Type 0} → List X → Entry → Kept X
part xs e = kept e.long (take e.count (drop e.start xs))

-- and to each entry
abbrev pub parts : {X : Type 0} → List X → List Entry → List (Kept X)
parts xs es = map (part xs) es
