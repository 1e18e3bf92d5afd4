-- What proving a claim file answers.
use Rattle.std.specs.Prelude.{◌≡◌, ℕ, ◌<◌, [], map, Some, None, Ok, Err, vec_items, Result}
use Rattle.std.specs.List.{AllByRecursion}
use Rattle.field.specs.Field.{Ops}
use Rattle.algebra.specs.Relation.{Claim as Statement}
use Rattle.algebra.specs.Proofs.{Reply}
use Rattle.prover.specs.Refusals.{told}
use Rattle.prover.specs.Replies.{reply_cells, proof_refusal, Replied}
use Rattle.prover.specs.declared.claim.Challenges.{Challenges}
use Rattle.prover.specs.declared.layout.Reply.{Reply as LentReply}
use Rattle.claim_file.specs.Grammar.{Claim, order}
use Rattle.claim_file.specs.declared.FieldName.{FieldName}
use Rattle.claim_file.specs.declared.FieldName.TheVariants.{Mersenne31, Gf256}
use Rattle.claim_file.specs.declared.ReadFault.TheVariants.{NoMemory}
use Rattle.mersenne31.specs.Mersenne31.{modulo, rem}
use Rattle.gf256.specs.Gf256.{bytes, low}
use Rattle.claim_check.specs.Outcome.{stated}
use Rattle.claim_check.specs.declared.fault.CheckFault.{CheckFault}
use Rattle.claim_check.specs.declared.fault.CheckFault.TheVariants.{Unreadable, Refused}
use Rattle.claim_prove.specs.declared.Proof.{Proof}

-- the reply that the words of a proof stand for
abbrev pub reply_of : {K : Type 0} → (ℕ → K) → Proof → Reply K
reply_of stands p = record {
  r = map stands (vec_items p.r);
  q = map stands (vec_items p.q);
  h1 = map stands (vec_items p.h1);
  h2 = map stands (vec_items p.h2);
}

-- P holds of every word of a proof
pub record EachWord (P : ℕ → Type 0) (p : Proof) : Type 0 where
  pub in_r : AllByRecursion P (vec_items p.r)
  pub in_q : AllByRecursion P (vec_items p.q)
  pub in_h1 : AllByRecursion P (vec_items p.h1)
  pub in_h2 : AllByRecursion P (vec_items p.h2)

-- the words, of which P holds, stand for an honest reply to a claim that is not refused, with v1 and v2 where it is free
pub record Proves {K : Type 0} (f : Ops K) (stands : ℕ → K) (P : ℕ → Type 0) (s : Statement K) (α β v1 v2 : K) (p : Proof) : Type 0 where
  pub taken : proof_refusal f s α β (reply_cells s.m s.n) ≡ None
  pub replied : Replied f s (reply_of stands p) α β v1 v2
  pub spelled : EachWord P p

-- the answer: such a proof, or the refusal that fits; want of memory tells nothing
abbrev pub ProvedBy : {K : Type 0} → Ops K → (ℕ → K) → (ℕ → Type 0) → Statement K → K → K → K → K → Result Proof CheckFault → Type 0
ProvedBy f stands P s α β v1 v2 (Ok p) = Proves f stands P s α β v1 v2 p
ProvedBy f stands P s α β v1 v2 (Err (Refused e)) = proof_refusal f s α β (reply_cells s.m s.n) ≡ Some (told e)
ProvedBy f stands P s α β v1 v2 (Err (Unreadable e)) = e ≡ NoMemory

-- the same for the claim that words stand for, at the challenges that words stand for
abbrev pub ProvesWords : {K : Type 0} → Ops K → (ℕ → K) → (ℕ → Type 0) → Claim → Challenges ℕ → Result Proof CheckFault → Type 0
ProvesWords f stands P c at r =
    ProvedBy f stands P (stated stands c) (stands at.alpha) (stands at.beta) (stands at.free1) (stands at.free2) r

-- the claim without its vector, which no prover reads
abbrev pub without_vector : Claim → Claim
without_vector c = record {
  field = c.field;
  m = c.m;
  n = c.n;
  matrix = c.matrix;
  vector = [];
  left = c.left;
  right = c.right;
  out = c.out;
}

-- the same over the field of a name, in words below its order
abbrev pub ProvesIn : FieldName → Claim → Challenges ℕ → Result Proof CheckFault → Type 0
ProvesIn Mersenne31 c at r = ProvesWords modulo rem (λ w. w < order Mersenne31) c at r
ProvesIn Gf256 c at r = ProvesWords bytes low (λ w. w < order Gf256) c at r

-- a word that is written for some value
abbrev pub Written : {X : Type 0} → (X → ℕ) → ℕ → Type 0
Written {X} spelling w = (x : X) × (w ≡ spelling x)

-- the words of a proof are written for the values of a reply
pub record Spells {X : Type 0} (spelling : X → ℕ) (reply : LentReply X) (p : Proof) : Type 0 where
  pub r : vec_items p.r ≡ map spelling reply.r.now
  pub q : vec_items p.q ≡ map spelling reply.q.now
  pub h1 : vec_items p.h1 ≡ map spelling reply.h1.now
  pub h2 : vec_items p.h2 ≡ map spelling reply.h2.now
