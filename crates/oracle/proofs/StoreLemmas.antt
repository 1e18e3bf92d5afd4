-- What always holds of a store.
use Rattle.std.proofs.Common.{◌≡◌, ℕ, ◌+◌, ◌-◌, ◌*◌, ◌<◌, ◌≤◌, true, ◌&&◌, List, [], ◌∷◌, ◌++◌, length, get_or, take, drop, set, Some, option_map, slice_get, nat_le, nat_lt, sym, ap, ap₂, subst, ◌∙◌, arith, vec_items, vec_len, lt-ltb, length-append, length-drop}
use Rattle.std.proofs.lemmas.List.{length-map, length-take-le, length_push, map_push, get_or-take, get_or_at, set_at, take_all, take_more, take_more_set, drop-append-le, drop_at, append-nil}
use Rattle.std.proofs.lemmas.Bool.Decides.{nat_tests}
use Rattle.std.proofs.lemmas.List.Concat.{flat_map-append}
use Rattle.std.proofs.lemmas.Option.{slice_get-map, slice_get-get_or}
use Rattle.oracle.specs.Store.{items_of, lists_of, room_of, fits, last_of, takes, extended}
use Rattle.oracle.specs.Tables.{Kept, kept, entry_of, chained, part, parts}
use Rattle.oracle.specs.declared.store.Store.{Store}
use Rattle.oracle.specs.declared.table.Entry.{Entry}
use Rattle.oracle.proofs.Chains.{Last, chain_at, chain_last, chain_most, chain_push, parts_items, parts_kept}

-- lists of which p is the last
module _ {X : Type 0} (ps : List (Kept X)) (p : Kept X) where
  last_at : length ps ≡ length (ps ++ (p ∷ [])) - 1
  last_at = omega (arith, length_push ps p)

  pub last_of_push : last_of (ps ++ (p ∷ [])) ≡ p
  last_of_push = get_or_at ps p [] (kept 0 []) (length (ps ++ (p ∷ [])) - 1) last_at

  pub extended_push : (x : X) → extended (ps ++ (p ∷ [])) x ≡ ps ++ (kept p.long (p.items ++ (x ∷ [])) ∷ [])
  extended_push x =
      let more : Kept X → Kept X = λ q. kept q.long (q.items ++ (x ∷ [])) in
      set_at ps p [] (more (last_of (ps ++ (p ∷ [])))) (length (ps ++ (p ∷ [])) - 1) last_at
      ∙ ap (λ q. ps ++ (more q ∷ [])) last_of_push

  pub takes_push : (room : ℕ) → takes (ps ++ (p ∷ [])) room ≡ nat_lt (length p.items) 16384 && nat_lt (length (items_of (ps ++ (p ∷ [])))) room
  takes_push room =
      let full = items_of (ps ++ (p ∷ [])) in
      ap₂ (λ b (q : Kept X). b && (nat_lt (length q.items) 16384 && nat_lt (length full) room)) (lt-ltb 0 (length (ps ++ (p ∷ []))) (omega (arith, length_push ps p))) last_of_push

  pub stored_push : length (items_of (ps ++ (p ∷ []))) ≡ length (items_of ps) + length p.items
  stored_push =
      ap length (flat_map-append (λ q. q.items) ps (p ∷ []) ∙ ap (λ r. items_of ps ++ r) (append-nil p.items))
      ∙ length-append (items_of ps) p.items

-- what it says that a list fits
pub record Fitting {X : Type 0} (ps : List (Kept X)) (room n : ℕ) : Type 0 where
  pub few : length ps < 16
  pub short : n ≤ 16384
  pub within : length (items_of ps) + n ≤ room

pub fitting : {X : Type 0} (ps : List (Kept X)) (room n : ℕ) → fits ps room n ≡ true → Fitting ps room n
fitting ps room n h = record { few = grind (arith, nat_tests, h); short = grind (arith, nat_tests, h); within = grind (arith, nat_tests, h) }

module _ {X : Type 0} (s : Store X) where
  entries_long : length (take s.table.len s.table.entries) ≡ s.table.len
  entries_long = length-take-le s.table.len s.table.entries (omega (arith, s.wide, s.few))

  pub length-lists_of : length (lists_of s) ≡ s.table.len
  length-lists_of = length-map (take s.table.len s.table.entries) (part (vec_items s.storage)) ∙ entries_long

  pub few : length (lists_of s) ≤ 16
  few = omega (arith, length-lists_of, s.few)

  pub items_of-lists_of : items_of (lists_of s) ≡ vec_items s.storage
  items_of-lists_of =
      parts_items (vec_items s.storage) 0 (take s.table.len s.table.entries) (vec_len s.storage) s.chain
      ∙ take_all (vec_len s.storage) (vec_items s.storage) (omega (arith, s.storage.ok.0))

  stored_long : length (items_of (lists_of s)) ≡ vec_len s.storage
  stored_long = ap length items_of-lists_of ∙ sym s.storage.ok.0

  pub stored : length (items_of (lists_of s)) ≤ room_of s
  stored = omega (arith, stored_long, s.within)

  pub most : length (items_of (lists_of s)) ≤ 16384 * length (lists_of s)
  most = omega (arith, stored_long, length-lists_of, entries_long, chain_most 0 (take s.table.len s.table.entries) (vec_len s.storage) s.chain)

  pub fits_is : (n : ℕ) → fits (lists_of s) (room_of s) n ≡ nat_lt s.table.len 16 && (nat_le n 16384 && nat_le (vec_len s.storage + n) s.room)
  fits_is n = ap₂ (λ l t. nat_lt l 16 && (nat_le n 16384 && nat_le (t + n) s.room)) length-lists_of stored_long

  -- entry k, where it stands
  module _ (k : ℕ) (d : Entry) (stands : k < s.table.len) where
    pub entry_within : (get_or s.table.entries k d).start + (get_or s.table.entries k d).count ≤ vec_len s.storage
    entry_within =
        let P : Entry → Type 0 = λ e. e.start + e.count ≤ vec_len s.storage in
        subst P (get_or-take s.table.len s.table.entries k d stands) (chain_at 0 (take s.table.len s.table.entries) (vec_len s.storage) k d s.chain (omega (arith, entries_long)))

    pub list_at : slice_get (lists_of s) k ≡ Some (part (vec_items s.storage) (get_or s.table.entries k d))
    list_at =
        let es = take s.table.len s.table.entries in
        slice_get-map (part (vec_items s.storage)) es k
        ∙ ap (λ o. option_map (part (vec_items s.storage)) o) (slice_get-get_or es k d (omega (arith, entries_long)))
        ∙ ap (λ e. Some (part (vec_items s.storage) e)) (get_or-take s.table.len s.table.entries k d stands)

  -- a list q put up behind the others, with its entry e
  module _ (q : List X) (long : ℕ) (e : Entry) (is : e ≡ entry_of (vec_len s.storage) (length q) long) (free : s.table.len < 16) where
    entries_more : take (s.table.len + 1) (set s.table.entries s.table.len e) ≡ take s.table.len s.table.entries ++ (e ∷ [])
    entries_more = take_more_set s.table.entries s.table.len e (omega (arith, s.wide))

    pub chain_more : (n : ℕ) → length q ≤ 16384 → n ≡ vec_len s.storage + length q → chained 0 (take (s.table.len + 1) (set s.table.entries s.table.len e)) n ≡ true
    chain_more n short ends =
        let start = ap (λ (x : Entry). x.start) is in
        let count = ap (λ (x : Entry). x.count) is in
        ap (λ r. chained 0 r n) entries_more
        ∙ chain_push 0 (take s.table.len s.table.entries) e n (ap (chained 0 (take s.table.len s.table.entries)) start ∙ s.chain) (omega (arith, count)) (omega (arith, start, count))

    pub lists_more : parts (vec_items s.storage ++ q) (take (s.table.len + 1) (set s.table.entries s.table.len e)) ≡ lists_of s ++ (kept long q ∷ [])
    lists_more =
        let xs = vec_items s.storage in
        let es = take s.table.len s.table.entries in
        let w : vec_len s.storage ≤ length xs = omega (arith, s.storage.ok.0) in
        let here : part (xs ++ q) e ≡ kept long q =
        ap (part (xs ++ q)) is ∙ ap (λ r. kept long (take (length q) r)) (drop_at xs q (vec_len s.storage) (omega (arith, s.storage.ok.0))) ∙ ap (kept long) (take_all (length q) q (omega arith)) in
        ap (parts (xs ++ q)) entries_more ∙ map_push (part (xs ++ q)) es e ∙ ap₂ (λ r x. r ++ (x ∷ [])) (parts_kept xs q 0 es (vec_len s.storage) s.chain w) here

  -- the last entry, number n
  module _ (n : ℕ) (d : Entry) (is : n + 1 ≡ s.table.len) where
    abbrev pub front : List Entry
    front = take n s.table.entries

    abbrev pub last : Entry
    last = get_or s.table.entries n d

    entries_split : take s.table.len s.table.entries ≡ front ++ (last ∷ [])
    entries_split = ap (λ m. take m s.table.entries) (sym is) ∙ take_more s.table.entries n d (omega (arith, s.wide, s.few))

    ends : Last 0 front last (vec_len s.storage)
    ends = chain_last 0 front last (vec_len s.storage) (ap (λ es. chained 0 es (vec_len s.storage)) (sym entries_split) ∙ s.chain)

    lists_split : lists_of s ≡ parts (vec_items s.storage) front ++ (part (vec_items s.storage) last ∷ [])
    lists_split = ap (parts (vec_items s.storage)) entries_split ∙ map_push (part (vec_items s.storage)) front last

    last_long : length (part (vec_items s.storage) last).items ≡ last.count
    last_long =
        length-take-le last.count (drop last.start (vec_items s.storage)) (omega (arith, ends.ends, length-drop last.start (vec_items s.storage), s.storage.ok.0))

    pub takes_is : takes (lists_of s) (room_of s) ≡ nat_lt last.count 16384 && nat_lt (vec_len s.storage) s.room
    takes_is =
        let xs = vec_items s.storage in
        ap (λ ps. takes ps s.room) lists_split
        ∙ takes_push (parts xs front) (part xs last) s.room
        ∙ ap₂ (λ m t. nat_lt m 16384 && nat_lt t s.room) last_long (ap (λ ps. length (items_of ps)) (sym lists_split) ∙ stored_long)

    -- one item x more behind it, with its new entry e
    module _ (x : X) (e : Entry) (set_to : e ≡ entry_of last.start (last.count + 1) last.long) where
      entries_grown : take s.table.len (set s.table.entries n e) ≡ front ++ (e ∷ [])
      entries_grown = ap (λ m. take m (set s.table.entries n e)) (sym is) ∙ take_more_set s.table.entries n e (omega (arith, s.wide, s.few))

      pub chain_grown : (m : ℕ) → last.count < 16384 → m ≡ vec_len s.storage + 1 → chained 0 (take s.table.len (set s.table.entries n e)) m ≡ true
      chain_grown m short more =
          let start = ap (λ (y : Entry). y.start) set_to in
          let count = ap (λ (y : Entry). y.count) set_to in
          ap (λ r. chained 0 r m) entries_grown
          ∙ chain_push 0 front e m (ap (chained 0 front) start ∙ ends.before) (omega (arith, count)) (omega (arith, start, count, ends.ends))

      pub lists_grown : parts (vec_items s.storage ++ (x ∷ [])) (take s.table.len (set s.table.entries n e)) ≡ extended (lists_of s) x
      lists_grown =
          let xs = vec_items s.storage in
          let ys = xs ++ (x ∷ []) in
          let w : last.start ≤ length xs = omega (arith, ends.ends, s.storage.ok.0) in
          let tail = drop last.start xs ++ (x ∷ []) in
          let whole : take last.count (drop last.start xs) ≡ drop last.start xs = take_all last.count (drop last.start xs) (omega (arith, ends.ends, length-drop last.start xs, s.storage.ok.0)) in
          let here : part ys e ≡ kept last.long ((part xs last).items ++ (x ∷ [])) =
          ap (part ys) set_to
          ∙ ap (λ r. kept last.long (take (last.count + 1) r)) (drop-append-le last.start xs (x ∷ []) w)
          ∙ ap (kept last.long) (take_all (last.count + 1) tail (omega (arith, length_push (drop last.start xs) x, ends.ends, length-drop last.start xs, s.storage.ok.0)))
          ∙ ap (λ r. kept last.long (r ++ (x ∷ []))) (sym whole) in
          ap (parts ys) entries_grown
          ∙ map_push (part ys) front e
          ∙ ap₂ (λ r p. r ++ (p ∷ [])) (parts_kept xs (x ∷ []) 0 front last.start ends.before w) here
          ∙ sym (ap (λ ps. extended ps x) lists_split ∙ extended_push (parts xs front) (part xs last) x)
