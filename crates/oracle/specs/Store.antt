-- What stands in a store, and what fits into it.
use Rattle.std.specs.Prelude.{ℕ, ◌+◌, ◌-◌, Bool, ◌&&◌, List, [], ◌∷◌, ◌++◌, length, take, nat_le, nat_lt, slice_index_or, slice_set, vec_capacity, vec_items}
use Rattle.std.specs.List.{flat_map}
use Rattle.oracle.specs.Tables.{Kept, kept, parts}
use Rattle.oracle.specs.declared.store.Store.{Store}

-- the lists that stand, in the order in which they were put up
abbrev pub lists_of : {X : Type 0} → Store X → List (Kept X)
lists_of s = parts (vec_items s.storage) (take s.table.len s.table.entries)

-- how many items it has room for in all
abbrev pub room_of : {X : Type 0} → Store X → ℕ
room_of s = s.room

-- how many items its storage is reserved for
abbrev pub reserved_of : {X : Type 0} → Store X → ℕ
reserved_of s = vec_capacity s.storage

-- the items of all lists, one list behind the other
abbrev pub items_of : {X : Type 0} → List (Kept X) → List X
items_of ps = flat_map (λ p. p.items) ps

-- how many they are
abbrev pub stored_of : {X : Type 0} → Store X → ℕ
stored_of s = length (items_of (lists_of s))

-- whether a list of n items fits: fewer than 16 lists stand, it has at most 16,384 items, and they have room beside the others
abbrev pub fits : {X : Type 0} → List (Kept X) → ℕ → ℕ → Bool
fits ps room n = nat_lt (length ps) 16 && (nat_le n 16384 && nat_le (length (items_of ps) + n) room)

-- the last list, or none
abbrev pub last_of : {X : Type 0} → List (Kept X) → Kept X
last_of ps = slice_index_or ps (length ps - 1) (kept 0 [])

-- whether one item more fits behind the last list: there is one, it has fewer than 16,384 items, and there is room
abbrev pub takes : {X : Type 0} → List (Kept X) → ℕ → Bool
takes ps room = nat_lt 0 (length ps) && (nat_lt (length (last_of ps).items) 16384 && nat_lt (length (items_of ps)) room)

-- the lists with one item more in the last
abbrev pub extended : {X : Type 0} → List (Kept X) → X → List (Kept X)
extended ps x = slice_set ps (length ps - 1) (kept (last_of ps).long ((last_of ps).items ++ (x ∷ [])))
