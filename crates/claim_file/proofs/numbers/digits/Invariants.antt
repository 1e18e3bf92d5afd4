use Rattle.std.proofs.Common.{◌≡◌, ◌^◌, ◌≤◌, drop}
use Rattle.claim_file.specs.Numbers.{spelled, spelled_after, capped}
use Rattle.claim_file.proofs.numbers.digits.Given as goal

abbrev pub invariant-loop-b : goal.invariant-loop-b
invariant-loop-b l = (l.value ≤ 2 ^ 32) × (capped (spelled_after l.base l.value (drop l.b-index l.text)) ≡ capped (spelled l.base l.text))
