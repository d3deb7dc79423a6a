use Rattle.std.proofs.Common.{◌<◌, ◌≢◌, arith, below_more, get_or-set_other}
use Rattle.std.proofs.Common.{get_or-set_same, length, length-set}
use Rattle.bound_calc.proofs.hop.HopRow.then.Goals as goal

pub loop-p-preserved : goal.loop-p-preserved
loop-p-preserved c =
    let lt : c.loop-p.p < length c.loop-p.hops = omega (arith, c.loop-p.invariant.count) in
    record {
      count = simp length-set c.loop-p.invariant.count;
      each =
          below_more _ _
          (λ k h. let ne : k ≢ c.loop-p.p = omega arith in
          rw get_or-set_other (c.loop-p.invariant.each k h))
          (rw get_or-set_same (c.follow.ensures));
    }
