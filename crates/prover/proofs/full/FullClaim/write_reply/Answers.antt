use Rattle.std.proofs.Common.{◌≡◌, ◌+◌, ◌-◌, ◌*◌, ◌++◌, length, arith, rules}
use Rattle.std.proofs.ByRecursion.{All-append}
use Rattle.polynomial.specs.Lengths.{RowsFit}
use Rattle.prover.proofs.Replies.{whole_rows, assembled}
use Rattle.prover.proofs.full.FullClaim.write_reply.Goals as goal

pub unwrap-requires : goal.unwrap-requires
unwrap-requires g c =
    let self = c.args.self.now in
    let rows : RowsFit (length self.claim.statement.matrix.now) (length c.split_at_mut-q.result.0.now) (length c.split_at_mut-r.result.0.now) =
    whole_rows self.claim.statement.m (3 * self.claim.statement.n + 1) _ _ _ self.some_rows (omega arith) self.matrix_long c.split_at_mut-q.ensures.front_len c.split_at_mut-r.ensures.front_len in
    search rules

pub returns : goal.returns
returns g c =
    let f = g.F.Field in
    let self = c.args.self.now in
    let r = c.divide.new.remainder in
    let q = c.divide.new.quotient in
    let h1 = c.write_h1.new.h1 in
    let h2 = c.write_h2.new.h2 in
    let (rows, divided) = rw c.unwrap.ensures at c.divide.ensures in
    let h1_long : length h1 ≡ 6 * self.claim.statement.n + 1 = omega (arith, c.split_at_mut-h1.ensures.front_len) in
    let h2_long : length h2 ≡ 2 * self.claim.statement.n - 1 =
    omega (
      arith,
      c.requires,
      rows.row_less,
      self.matrix_long,
      c.split_at_mut-r.ensures.front_len,
      c.split_at_mut-q.ensures.front_len,
      c.split_at_mut-r.ensures.back_len,
      c.split_at_mut-q.ensures.back_len,
      c.split_at_mut-h1.ensures.back_len,
    ) in
    record {
      replied = assembled f.ops f.mean f.reduced self.claim (f.mean c.args.at.alpha) (f.mean c.args.at.beta) (f.mean c.args.at.free1) (f.mean c.args.at.free2) r q h1 h2
          self.some_rows self.some_gates (omega (arith, c.split_at_mut-r.ensures.front_len)) (omega (arith, c.split_at_mut-q.ensures.front_len)) h1_long h2_long
          divided c.write_h1.ensures c.write_h2.ensures;
      tidy = All-append f.reduced r (q ++ (h1 ++ h2)) divided.remainder_tidy
          (All-append f.reduced q (h1 ++ h2) divided.quotient_tidy (All-append f.reduced h1 h2 c.write_h1.ensures.tidy c.write_h2.ensures.tidy));
    }
