-- Terms that are put up one by one.
use Rattle.std.proofs.Common.{◌≡◌, ℕ, ◌+◌, ◌<◌, ◌≤◌, true, false, cond, List, [], ◌∷◌, ◌++◌, map, length, get_or, take, sym, ap, ◌∙◌, arith}
use Rattle.std.proofs.lemmas.Bool.Decides.{nat_tests}
use Rattle.std.proofs.lemmas.List.{take_more, length-take-le, length_push, append-nil, take-map}
use Rattle.field.specs.Field.{Ops}
use Rattle.oracle.specs.Store.{extended, fits, items_of, takes}
use Rattle.oracle.specs.Tables.{Kept, kept}
use Rattle.oracle.proofs.StoreLemmas.{extended_push, fitting, stored_push, takes_push}
use Rattle.sparse_oracle.specs.Spelling.{nonzero_take, terms_count, terms_push}
use Rattle.sparse_oracle.specs.Terms.{nonzero, term_of, terms_of}
use Rattle.sparse_oracle.specs.declared.term.Term.{Term}

module _ {X K : Type 0} (f : Ops K) (mean : X → K) (ps : List (Kept (Term X))) (p : List X) where
  -- the lists once the terms of the first i coefficients are put up behind ps
  abbrev pub so_far : ℕ → List (Kept (Term X))
  so_far i = ps ++ (kept (length p) (terms_of f mean 0 (take i p)) ∷ [])

  -- coefficient i is x
  module _ (i : ℕ) (x : X) (within : i < length p) (is : x ≡ get_or p i x) where
    terms_more : terms_of f mean 0 (take (i + 1) p) ≡ terms_of f mean 0 (take i p) ++ cond (f.same (mean x) f.nil) [] (term_of i x ∷ [])
    terms_more =
        ap (terms_of f mean 0) (take_more p i x within ∙ ap (λ y. take i p ++ (y ∷ [])) (sym is))
        ∙ terms_push f mean 0 (take i p) x
        ∙ ap (λ n. terms_of f mean 0 (take i p) ++ cond (f.same (mean x) f.nil) [] (term_of n x ∷ [])) (omega (arith, length-take-le i p (omega arith)))

    pub skipped : f.same (mean x) f.nil ≡ true → so_far i ≡ so_far (i + 1)
    skipped zero =
        ap (λ ts. ps ++ (kept (length p) ts ∷ []))
        (sym (terms_more ∙ ap (λ b. terms_of f mean 0 (take i p) ++ cond b [] (term_of i x ∷ [])) zero ∙ append-nil (terms_of f mean 0 (take i p))))

    module _ (other : f.same (mean x) f.nil ≡ false) where
      one_more : terms_of f mean 0 (take (i + 1) p) ≡ terms_of f mean 0 (take i p) ++ (term_of i x ∷ [])
      one_more = terms_more ∙ ap (λ b. terms_of f mean 0 (take i p) ++ cond b [] (term_of i x ∷ [])) other

      pub pushed : extended (so_far i) (term_of i x) ≡ so_far (i + 1)
      pushed =
          extended_push ps (kept (length p) (terms_of f mean 0 (take i p))) (term_of i x)
          ∙ ap (λ ts. ps ++ (kept (length p) ts ∷ [])) (sym one_more)

      pub takes_one : (room : ℕ) → fits ps room (nonzero f (map mean p)) ≡ true → takes (so_far i) room ≡ true
      takes_one room h =
          let ts = terms_of f mean 0 (take i p) in
          let fit = fitting ps room (nonzero f (map mean p)) h in
          let below : length ts + 1 ≤ nonzero f (map mean p) =
          omega (arith, length_push ts (term_of i x), ap length one_more, terms_count f mean 0 (take (i + 1) p), ap (nonzero f) (take-map mean (i + 1) p), nonzero_take f (map mean p) (i + 1)) in
          let short : length ts < 16384 = omega (arith, fit.short) in
          let free : length (items_of (so_far i)) < room = omega (arith, stored_push ps (kept (length p) ts), fit.within) in
          takes_push ps (kept (length p) ts) room ∙ grind (arith, nat_tests)
