-- Which refusal fits a put, by what the oracle answered, and what stands then.
use Rattle.std.proofs.Common.{◌≡◌, ℕ, ◌<◌, ◌≤◌, true, false, cond, ltb, List, length, Some, None, Ok, Err, Option, ap, ◌∙◌, arith}
use Rattle.std.proofs.lemmas.Bool.Decides.{nat_tests}
use Rattle.polynomial.specs.Refusals.{Told}
use Rattle.oracle.specs.Standing.{Standing, fix_refusal, fix_after, appended, answer_by, after_by}
use Rattle.ledger.specs.Faults.{told, held, holding}
use Rattle.ledger.specs.Ledger.{put_refusal}
use Rattle.ledger.specs.declared.fault.SessionFault.TheVariants.{TooMany}

-- the refusal that an answer tells
refused_by : (o : Option Told) (t : Told) → Err t ≡ answer_by o → o ≡ Some t
refused_by (Some u) t h = cc
refused_by None t h = cc

accepted_by : (o : Option Told) (u : Unit {0}) → Ok u ≡ answer_by o → o ≡ None
accepted_by (Some t) u h = cc
accepted_by None u h = cc

-- the refusal of a put, and the standing after it
pub record PutTold {K : Type 0} (st : Standing K) (most : ℕ) (p : List K) (o : Option Told) (after left : Standing K) : Type 0 where
  pub fits : put_refusal st most p ≡ o
  pub stands : after ≡ left

module _ {K : Type 0} (st : Standing K) (most : ℕ) (p : List K) where
  pub put_many : most < length p → put_refusal st most p ≡ Some (told TooMany)
  put_many h = let e : ltb most (length p) ≡ true = grind (arith, nat_tests) in ap (λ b. cond b (Some (told TooMany)) (held (fix_refusal st p))) e

  put_tried : length p ≤ most → put_refusal st most p ≡ held (fix_refusal st p)
  put_tried h = let e : ltb most (length p) ≡ false = grind (arith, nat_tests) in ap (λ b. cond b (Some (told TooMany)) (held (fix_refusal st p))) e

  module _ (after : Standing K) (short : length p ≤ most) (is : after ≡ fix_after st p) where
    pub put_refused : (t : Told) → Err t ≡ answer_by (fix_refusal st p) → PutTold st most p (Some (holding t)) after st
    put_refused t h =
        let e = refused_by (fix_refusal st p) t h in
        record { fits = put_tried short ∙ ap held e; stands = is ∙ ap (λ o. after_by o st (appended st p)) e }

    pub put_accepted : (u : Unit {0}) → Ok u ≡ answer_by (fix_refusal st p) → PutTold st most p None after (appended st p)
    put_accepted u h =
        let e = accepted_by (fix_refusal st p) u h in
        record { fits = put_tried short ∙ ap held e; stands = is ∙ ap (λ o. after_by o st (appended st p)) e }
