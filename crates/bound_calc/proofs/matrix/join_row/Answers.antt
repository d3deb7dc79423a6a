use Rattle.std.proofs.Common.{◌<◌, ◌≢◌, arith, below_more, get_or-set_other}
use Rattle.std.proofs.Common.{get_or-set_same, length, length-set}
use Rattle.bound_calc.proofs.matrix.join_row.Goals as goal

pub loop-q-preserved : goal.loop-q-preserved
loop-q-preserved c =
    let lt : c.loop-q.q < length c.loop-q.row = omega (arith, c.loop-q.invariant.count) in
    record {
      count = simp length-set c.loop-q.invariant.count;
      joined =
          below_more _ _
          (λ k h. let ne : k ≢ c.loop-q.q = omega arith in
          rw get_or-set_other (c.loop-q.invariant.joined k h))
          (rw get_or-set_same (c.larger.ensures));
    }
