-- The words that are written for the values of a reply stand for that reply.
use Rattle.std.proofs.Common.{◌≡◌, ℕ, ◌+◌, ◌-◌, ◌*◌, List, [], ◌∷◌, map, length, take, drop, Ok, Err, vec_items, Result, sym, refl, ap, ◌∙◌, subst, arith}
use mathlib.Core.Path.{fun_ext}
use mathlib.Core.List.{map-map}
use Rattle.std.specs.List.{between, AllByRecursion}
use Rattle.std.proofs.lemmas.List.{take_all, length-map}
use Rattle.std.proofs.lemmas.Slice.{between_to_end}
use Rattle.field.specs.Field.{Ops}
use Rattle.algebra.specs.Relation.{Claim as Statement}
use Rattle.prover.specs.Replies.{reply_cells, reply_in}
use Rattle.prover.proofs.Parts.{map_part}
use Rattle.prover.specs.Layouts.{layout_of, SplitAt}
use Rattle.prover.specs.declared.layout.Reply.{Reply as LentReply}
use Rattle.claim_check.specs.declared.fault.CheckFault.{CheckFault}
use Rattle.claim_check.specs.declared.fault.CheckFault.TheVariants.{Unreadable, Refused}
use Rattle.claim_prove.specs.declared.Proof.{Proof}
use Rattle.claim_file.specs.Grammar.{Claim}
use Rattle.claim_check.specs.Outcome.{stated}
use Rattle.claim_prove.specs.Proofs.{reply_of, EachWord, ProvedBy, Spells, Written, without_vector}

pub all_map : {P Q : ℕ → Type 0} (xs : List ℕ) → ((w : ℕ) → P w → Q w) → AllByRecursion P xs → AllByRecursion Q xs
all_map [] h a = tt
all_map (x ∷ xs) h (p, a) = (h x p, all_map xs h a)

-- an answer whose words are P is one whose words are Q, where P says more
pub weaker : {K : Type 0} (f : Ops K) (stands : ℕ → K) (P Q : ℕ → Type 0) (s : Statement K) (α β v1 v2 : K) (r : Result Proof CheckFault) → ((w : ℕ) → P w → Q w)
    → ProvedBy f stands P s α β v1 v2 r → ProvedBy f stands Q s α β v1 v2 r
weaker f stands P Q s α β v1 v2 (Ok p) h is = record {
  taken = is.taken;
  replied = is.replied;
  spelled = record {
    in_r = all_map (vec_items p.r) h is.spelled.in_r;
    in_q = all_map (vec_items p.q) h is.spelled.in_q;
    in_h1 = all_map (vec_items p.h1) h is.spelled.in_h1;
    in_h2 = all_map (vec_items p.h2) h is.spelled.in_h2;
  };
}
weaker f stands P Q s α β v1 v2 (Err (Refused e)) h is = is
weaker f stands P Q s α β v1 v2 (Err (Unreadable e)) h is = is

-- an answer for the claim without its vector is one for the claim
pub any_vector : {K : Type 0} (f : Ops K) (stands : ℕ → K) (P : ℕ → Type 0) (c : Claim) (α β v1 v2 : K) (r : Result Proof CheckFault)
    → ProvedBy f stands P (stated stands (without_vector c)) α β v1 v2 r → ProvedBy f stands P (stated stands c) α β v1 v2 r
any_vector f stands P c α β v1 v2 (Ok p) is = record {
  taken = is.taken;
  replied = record {
    honest = record {
      divided = is.replied.honest.divided;
      h1_is = is.replied.honest.h1_is;
      h2_is = is.replied.honest.h2_is;
    };
    free1 = is.replied.free1;
    free2 = is.replied.free2;
    r_long = is.replied.r_long;
    q_long = is.replied.q_long;
    h1_long = is.replied.h1_long;
    h2_long = is.replied.h2_long;
  };
  spelled = is.spelled;
}
any_vector f stands P c α β v1 v2 (Err (Refused e)) is = is
any_vector f stands P c α β v1 v2 (Err (Unreadable e)) is = is

module _ {X K : Type 0} (mean : X → K) (element : ℕ → X) (spelling : X → ℕ) (law : (x : X) → mean (element (spelling x)) ≡ mean x) where
  abbrev stands : ℕ → K
  stands w = mean (element w)

  pub stand_again : (ws : List ℕ) (xs : List X) → ws ≡ map spelling xs → map stands ws ≡ map mean xs
  stand_again ws xs e = ap (map stands) e ∙ map-map stands spelling xs ∙ ap (λ g. map g xs) (fun_ext law)

  pub all_written : (ws : List ℕ) (xs : List X) → ws ≡ map spelling xs → AllByRecursion (Written spelling) ws
  all_written ws xs e = subst (AllByRecursion (Written spelling)) (sym e) (each xs)
    where
      each : (xs : List X) → AllByRecursion (Written spelling) (map spelling xs)
      each [] = tt
      each (x ∷ xs) = ((x, refl), each xs)

  -- the words of a proof, which are those of the polynomials that lie in the cells of a reply
  module _ (m n : ℕ) (is : List X) (long : length is ≡ reply_cells m n) (reply : LentReply X) (split : SplitAt (layout_of m n) is reply) (p : Proof) (spells : Spells spelling reply p) where
    abbrev cells : List K
    cells = map mean (take (reply_cells m n) is)

    whole : map mean is ≡ cells
    whole = ap (map mean) (sym (take_all (reply_cells m n) is (omega arith)))

    part : (a b : ℕ) (ws : List ℕ) (xs : List X) → ws ≡ map spelling xs → xs ≡ between a b is → map stands ws ≡ between a b cells
    part a b ws xs e f = stand_again ws xs e ∙ ap (map mean) f ∙ sym (map_part mean a b is) ∙ ap (between a b) whole

    pub same_reply : reply_in m n cells ≡ reply_of stands p
    same_reply =
        let zero-less : 3 * n + 1 - 0 ≡ 3 * n + 1 = omega arith in
        let r : take (3 * n + 1) cells ≡ map stands (vec_items p.r) = sym (part 0 (3 * n + 1) (vec_items p.r) reply.r.now spells.r split.r_is ∙ ap (λ (l : ℕ). take l cells) zero-less) in
        let q : between (3 * n + 1) (m * (3 * n + 1)) cells ≡ map stands (vec_items p.q) = sym (part (3 * n + 1) (m * (3 * n + 1)) (vec_items p.q) reply.q.now spells.q split.q_is) in
        let h1 : between (m * (3 * n + 1)) (m * (3 * n + 1) + (6 * n + 1)) cells ≡ map stands (vec_items p.h1) =
        sym (part (m * (3 * n + 1)) (m * (3 * n + 1) + (6 * n + 1)) (vec_items p.h1) reply.h1.now spells.h1 split.h1_is) in
        let h2 : drop (m * (3 * n + 1) + (6 * n + 1)) cells ≡ map stands (vec_items p.h2) =
        sym (part (m * (3 * n + 1) + (6 * n + 1)) (m * (3 * n + 1) + 8 * n) (vec_items p.h2) reply.h2.now spells.h2 split.h2_is
        ∙ between_to_end cells (m * (3 * n + 1) + (6 * n + 1)) (m * (3 * n + 1) + 8 * n) (omega (arith, ap length (sym whole), length-map is mean))) in
        cc (r, q, h1, h2)

    pub written : EachWord (Written spelling) p
    written = record {
      in_r = all_written (vec_items p.r) reply.r.now spells.r;
      in_q = all_written (vec_items p.q) reply.q.now spells.q;
      in_h1 = all_written (vec_items p.h1) reply.h1.now spells.h1;
      in_h2 = all_written (vec_items p.h2) reply.h2.now spells.h2;
    }
