-- An encoding whose lists are those of `encoded` is a right answer.
use Rattle.std.proofs.Common.{◌≡◌, ℕ, ◌+◌, ◌-◌, ◌*◌, List, ◌++◌, map, length, replicate, None, Ok, vec_items, sym, ap, ◌∙◌, subst, arith}
use Rattle.std.specs.List.{range_with_len}
use Rattle.std.proofs.lemmas.List.{length-map}
use Rattle.field.specs.Field.{Ops, Laws}
use Rattle.prover.specs.Owned.{owned_claim}
use Rattle.prover.specs.declared.owned.OwnedClaim.{OwnedClaim}
use Rattle.quadratic.specs.Systems.{system_of, product}
use Rattle.quadratic.specs.Encodings.{matrix_of, carried, encoded, Faithful}
use Rattle.quadratic.specs.Refusals.{refusal}
use Rattle.quadratic.specs.Answers.{Encodes}
use Rattle.quadratic.proofs.Accepts.{accepted}
use Rattle.quadratic.proofs.Cells.{used_all}
use Rattle.quadratic.proofs.Theorem.{faithful}

module _ {X K : Type 0} (f : Ops K) (laws : Laws f) (mean : X → K) (v : ℕ) (pairs : List (ℕ × ℕ)) (coefficients signature y : List X) (e : OwnedClaim X) where
  pub encodes : refusal v pairs (length coefficients) (length signature) (length y) ≡ None
      → e.m ≡ length y + 2 * length pairs → e.n ≡ length pairs
      → map mean (vec_items e.matrix) ≡ matrix_of f (system_of mean v pairs coefficients) (length y)
      → map mean (vec_items e.vector) ≡ map mean y ++ replicate (e.m - length y) f.nil
      → map mean (vec_items e.left) ≡ map (carried f pairs (map mean signature)) (range_with_len 0 (length pairs))
      → map mean (vec_items e.right) ≡ map (carried f pairs (map mean signature)) (range_with_len (length pairs) (length pairs))
      → map mean (vec_items e.out) ≡ map (product f pairs (map mean signature)) (range_with_len 0 (length pairs))
      → Encodes f mean v pairs coefficients signature y (Ok e)
  encodes none em en ea eb el er eo =
      let s = system_of mean v pairs coefficients in
      let long : length (map mean y) ≡ length y = length-map y mean in
      let zeros : e.m - length y ≡ 2 * length pairs = omega arith in
      let rows : e.m ≡ length (map mean y) + 2 * length pairs = omega arith in
      let matrix = ea ∙ ap (matrix_of f s) (sym long) in
      let vector = eb ∙ ap (λ k. map mean y ++ replicate k f.nil) zeros in
      let is : owned_claim mean e ≡ encoded f s (map mean signature) (map mean y) = cc in
      let fits = accepted v pairs (length coefficients) (length signature) (length y) none in
      (none, is, subst (Faithful f s (map mean signature) (map mean y)) (sym is) (faithful f laws s (map mean signature) (map mean y) (used_all v pairs fits.used)))
