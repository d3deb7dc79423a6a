use Rattle.std.proofs.Common.{◌≢◌, ◌<◌, arith, length, length-set}
use Rattle.std.proofs.Common.{get_or-set_other, get_or-set_same, below_more}
use Rattle.bound_calc.specs.Bound.{positions}
use Rattle.bound_calc.proofs.Accepted.{frame-short}
use Rattle.bound_calc.proofs.StepLaws.{best-stays}
use Rattle.bound_calc.proofs.steps.one.Goals as goal

pub loop-position-preserved : goal.loop-position-preserved
loop-position-preserved c =
    let lt : c.loop-position.position < length c.loop-position.best =
    omega (arith, c.loop-position.invariant.count) in
    record {
      count = simp length-set c.loop-position.invariant.count;
      rows =
          below_more _ _
          (λ k h. let ne : k ≢ c.loop-position.position = omega arith in
          rw get_or-set_other (c.loop-position.invariant.rows k h))
          (rw get_or-set_same (c.one_row.ensures));
    }

pub returns : goal.returns
returns c =
    best-stays (positions c.args.slots.now c.args.thread)
    (record { best = c.loop-position.best }) (frame-short c.args.slots.now)
    (λ p q d h k e. (c.loop-position.invariant.rows p (omega arith)).found q d k e)
    (λ p q d h s. (c.loop-position.invariant.rows p (omega arith)).all q d s)
