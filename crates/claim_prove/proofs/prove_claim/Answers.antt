use Rattle.std.proofs.Common.{◌≡◌, ℕ, ◌%◌, ◌<◌, sym, subst, mod-lt, lit<}
use mathlib.Core.Path.{fun_ext}
use native.Mathlib.Nat.{mod-mod}
use Rattle.field.proofs.Numbers.{below_path}
use Rattle.claim_file.specs.Answer.{meaning}
use Rattle.claim_file.specs.declared.FieldName.{FieldName}
use Rattle.mersenne31.specs.Mersenne31.{modulo, rem, p}
use Rattle.gf256.specs.Gf256.{Byte, bytes, low}
use Rattle.gf256.specs.declared.Gf256.{Gf256}
use Rattle.claim_prove.specs.Proofs.{ProvesIn, ProvesWords, Written}
use Rattle.claim_prove.proofs.Spellings.{weaker}
use Rattle.claim_prove.proofs.prove_claim.Goals as goal

-- a remainder is below what it is a remainder by
below : {X : Type 0} (m : ℕ) (number : X → ℕ) → 0 < m → (w : ℕ) → Written (λ (x : X). number x % m) w → w < m
below m number some w (x, e) = subst (λ (k : ℕ). k < m) (sym e) (mod-lt (number x) some)

pub returns-in-Mersenne31 : goal.returns-in-Mersenne31
returns-in-Mersenne31 c =
    let claim = meaning c.args.claim.now in
    let r = c.prove_words.result in
    subst (λ (n : FieldName). ProvesIn n claim c.args.at r) (sym c.in-Mersenne31.is)
    (weaker modulo rem _ (λ w. w < p) _ _ _ _ _ r (below p _ (lit< tt)) c.prove_words.ensures)

pub returns-in-Gf256 : goal.returns-in-Gf256
returns-in-Gf256 c =
    let claim = meaning c.args.claim.now in
    let r = c.prove_words-in-Gf256.result in
    let number : Gf256 → ℕ = λ x. x.0 in
    let same : ◌≡◌ {A = ℕ → Byte} (λ w. low (w % 256)) low = fun_ext (λ w. below_path 256 (mod-mod w 256)) in
    subst (λ (n : FieldName). ProvesIn n claim c.args.at r) (sym c.in-Gf256.is)
    (weaker bytes low _ (λ w. w < 256) _ _ _ _ _ r (below 256 number (lit< tt)) (subst (λ (stands : ℕ → Byte). ProvesWords bytes stands (Written (λ x. number x % 256)) claim c.args.at r) same c.prove_words-in-Gf256.ensures))
