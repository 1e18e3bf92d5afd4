use Rattle.std.proofs.Common.{◌≡◌, ℕ, List, map, length, take, None, sym, ap, ◌∙◌, subst, arith}
use Rattle.std.proofs.lemmas.List.{with_items_is}
use Rattle.algebra.specs.Proofs.{Reply}
use Rattle.prover.specs.Claims.{claim_of}
use Rattle.prover.specs.Layouts.{SplitAt}
use Rattle.prover.specs.Replies.{reply_cells, reply_in, proof_refusal, Replied}
use Rattle.prover.specs.declared.layout.Layout.{Layout}
use Rattle.claim_prove.proofs.Spellings.{same_reply, written}
use Rattle.claim_prove.proofs.prove_values.Goals as goal

pub returns : goal.returns
returns g c =
    let f = g.F.Field in
    let e = g.F.Encoded in
    let s = claim_of f.mean c.args.claim in
    let α = f.mean c.args.at.alpha in
    let β = f.mean c.args.at.beta in
    let v1 = f.mean c.args.at.free1 in
    let v2 = f.mean c.args.at.free2 in
    let lies = c.in_ok-layout.ensures.1 in
    let proved = c.in_ok-prove.ensures in
    let was = c.deref_mut.result.now in
    let is = c.deref.result.now in
    let end : c.in_ok-layout.layout.h2_end ≡ reply_cells s.m s.n = ap (λ (l : Layout). l.h2_end) lies in
    let room : length was ≡ reply_cells s.m s.n = omega (arith, c.deref_mut.ensures.len, c.in_ok-cells.ensures.len) in
    let same : is ≡ c.prove.new.buffer = c.deref.ensures.value ∙ with_items_is c.in_ok-cells.cells c.prove.new.buffer (omega (arith, c.deref_mut.ensures.len)) in
    let long : length is ≡ reply_cells s.m s.n = ap length same ∙ omega (arith, room) in
    let reply = c.unwrap-reply.result in
    let parts = rw c.unwrap-reply.ensures at c.split.ensures.parts in
    let split = subst (λ (l : Layout). SplitAt l is reply) lies parts in
    let spells = c.in_ok-proof.ensures in
    let law = g.met.F.Encoded.spelled in
    record {
      taken = subst (λ (l : ℕ). proof_refusal f.ops s α β l ≡ None) room proved.0;
      replied = subst (λ (r : Reply f.K). Replied f.ops s r α β v1 v2)
          (same_reply f.mean e.element e.spelling law s.m s.n is long reply split c.in_ok-proof.proof spells)
          (subst (λ (l : List _). Replied f.ops s (reply_in s.m s.n (map f.mean (take (reply_cells s.m s.n) l))) α β v1 v2) (sym same) proved.1.replied);
      spelled = written f.mean e.element e.spelling law s.m s.n is long reply split c.in_ok-proof.proof spells;
    }
