use Rattle.std.proofs.Common.{◌≡◌, ℕ, not, ◌&&◌, ltb, length, arith}
use Rattle.std.proofs.lemmas.Bool.Decides.{nat_tests}
use Rattle.quadratic.specs.Positions.{stray}
use Rattle.quadratic.proofs.Searches.{first_le, named_all}
use Rattle.quadratic.proofs.signed.Signed.new.Goals as goal

pub invariant_of-result : goal.invariant_of-result
invariant_of-result g c =
    let v = c.args.system.variables in
    let pairs = c.args.system.pairs.now in
    let upto = first_le (λ (q : ℕ × ℕ). not (ltb q.0 v && ltb q.1 v)) pairs in
    let tame : stray v pairs ≡ length pairs = grind (arith, nat_tests) in
    record { fits = record { signed = c.if-signature-system.false; tame = tame }; named = named_all pairs v tame }
