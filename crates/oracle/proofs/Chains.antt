-- What a chain of entries gives.
use Rattle.std.proofs.Common.{◌≡◌, ℕ, zero, suc, ◌+◌, ◌*◌, ◌<◌, ◌≤◌, true, List, [], ◌∷◌, ◌++◌, length, get_or, take, drop, sym, refl, ap, ap₂, ◌∙◌, arith, take-add, length-drop}
use Rattle.std.proofs.lemmas.List.{append_assoc, append-nil, take-append-le, drop-append-le}
use Rattle.std.proofs.lemmas.Bool.Decides.{nat_tests}
use Rattle.oracle.specs.Store.{items_of}
use Rattle.oracle.specs.Tables.{chained, kept, part, parts}
use Rattle.oracle.specs.declared.table.Entry.{Entry}

-- what a chain says of its first entry
record Link (e : Entry) (a : ℕ) (es : List Entry) (b : ℕ) : Type 0 where
  here : e.start ≡ a
  short : e.count ≤ 16384
  rest : chained (a + e.count) es b ≡ true

link : (e : Entry) (a : ℕ) (es : List Entry) (b : ℕ) → chained a (e ∷ es) b ≡ true → Link e a es b
link e a es b h = record { here = grind (arith, nat_tests, h); short = grind (arith, nat_tests, h); rest = grind (arith, nat_tests, h) }

linked : (e : Entry) (a : ℕ) (es : List Entry) (b : ℕ) → Link e a es b → chained a (e ∷ es) b ≡ true
linked e a es b l = let h = l.here in let s = l.short in let r = l.rest in grind (arith, nat_tests)

chain_le : (a : ℕ) (es : List Entry) (b : ℕ) → chained a es b ≡ true → a ≤ b
chain_le a [] b h = grind (arith, nat_tests, h)
chain_le a (e ∷ es) b h = omega (arith, chain_le (a + e.count) es b (link e a es b h).rest)

-- no entry has more than 16,384 items
pub chain_most : (a : ℕ) (es : List Entry) (b : ℕ) → chained a es b ≡ true → b ≤ a + 16384 * length es
chain_most a [] b h = grind (arith, nat_tests, h)
chain_most a (e ∷ es) b h = let l = link e a es b h in omega (arith, l.short, chain_most (a + e.count) es b l.rest)

-- one entry more
pub chain_push : (a : ℕ) (es : List Entry) (e : Entry) (b : ℕ) → chained a es e.start ≡ true → e.count ≤ 16384 → e.start + e.count ≡ b → chained a (es ++ (e ∷ [])) b ≡ true
chain_push a [] e b h s n = grind (arith, nat_tests)
chain_push a (f ∷ es) e b h s n =
    let l = link f a es e.start h in
    linked f a (es ++ (e ∷ [])) b (record { here = l.here; short = l.short; rest = chain_push (a + f.count) es e b l.rest s n })

-- entry k ends below the end of the chain
pub chain_at : (a : ℕ) (es : List Entry) (b k : ℕ) (d : Entry) → chained a es b ≡ true → k < length es → (get_or es k d).start + (get_or es k d).count ≤ b
chain_at a [] b k d h w = absurd (omega arith)
chain_at a (e ∷ es) b zero d h w = let l = link e a es b h in omega (arith, l.here, chain_le (a + e.count) es b l.rest)
chain_at a (e ∷ es) b (suc k) d h w = chain_at (a + e.count) es b k d (link e a es b h).rest (omega arith)

-- what it says of its last entry
pub record Last (a : ℕ) (es : List Entry) (e : Entry) (b : ℕ) : Type 0 where
  pub before : chained a es e.start ≡ true
  pub short : e.count ≤ 16384
  pub ends : e.start + e.count ≡ b

pub chain_last : (a : ℕ) (es : List Entry) (e : Entry) (b : ℕ) → chained a (es ++ (e ∷ [])) b ≡ true → Last a es e b
chain_last a [] e b h =
    let l = link e a [] b h in
    let o = l.here in
    let r = l.rest in
    record { before = grind (arith, nat_tests); short = l.short; ends = grind (arith, nat_tests) }
chain_last a (f ∷ es) e b h =
    let l = link f a (es ++ (e ∷ [])) b h in
    let i = chain_last (a + f.count) es e b l.rest in
    record { before = linked f a es e.start (record { here = l.here; short = l.short; rest = i.before }); short = i.short; ends = i.ends }

module _ {X : Type 0} where
  -- an entry does not see what is stored behind it
  part_kept : (xs ys : List X) (e : Entry) → e.start + e.count ≤ length xs → part (xs ++ ys) e ≡ part xs e
  part_kept xs ys e h =
      ap (λ r. kept e.long (take e.count r)) (drop-append-le e.start xs ys (omega arith))
      ∙ ap (kept e.long) (take-append-le e.count (drop e.start xs) ys (omega (arith, length-drop e.start xs)))

  pub parts_kept : (xs ys : List X) (a : ℕ) (es : List Entry) (b : ℕ) → chained a es b ≡ true → b ≤ length xs → parts (xs ++ ys) es ≡ parts xs es
  parts_kept xs ys a [] b h w = refl
  parts_kept xs ys a (e ∷ es) b h w =
      let l = link e a es b h in
      ap₂ ◌∷◌ (part_kept xs ys e (omega (arith, l.here, chain_le (a + e.count) es b l.rest))) (parts_kept xs ys (a + e.count) es b l.rest w)

  -- the items of all entries are those that are stored
  pub parts_items : (xs : List X) (a : ℕ) (es : List Entry) (b : ℕ) → chained a es b ≡ true → take a xs ++ items_of (parts xs es) ≡ take b xs
  parts_items xs a [] b h = let e : a ≡ b = grind (arith, nat_tests, h) in append-nil (take a xs) ∙ ap (λ n. take n xs) e
  parts_items xs a (e ∷ es) b h =
      let l = link e a es b h in
      ap (λ n. take a xs ++ (take e.count (drop n xs) ++ items_of (parts xs es))) l.here
      ∙ sym (append_assoc (take a xs) (take e.count (drop a xs)) (items_of (parts xs es)))
      ∙ ap (λ r. r ++ items_of (parts xs es)) (sym (take-add a e.count xs))
      ∙ parts_items xs (a + e.count) es b l.rest
