use Rattle.std.proofs.Common.{◌<◌, arith, length, length-set}
use Rattle.bound_calc.specs.Bound.{positions}
use Rattle.bound_calc.proofs.Accepted.{frame-short}
use Rattle.bound_calc.proofs.StepLaws.{row-found, row-all, hops-all}
use Rattle.bound_calc.proofs.steps.hop_row.Goals as goal

pub loop-position-preserved : goal.loop-position-preserved
loop-position-preserved c =
    let lt : c.loop-position.position < length c.loop-position.hops =
    omega (arith, c.loop-position.invariant.count) in
    record {
      count = simp length-set c.loop-position.invariant.count;
      found =
          row-found (positions c.args.slots.now c.args.thread) c.args.lag c.loop-position.position
          c.loop-position.hops c.hop.result lt c.loop-position.invariant.found c.hop.ensures.found;
      all =
          row-all (positions c.args.slots.now c.args.thread) c.args.lag c.loop-position.position
          c.loop-position.hops c.hop.result lt c.loop-position.invariant.all c.hop.ensures.all;
    }

pub returns : goal.returns
returns c =
    hops-all (positions c.args.slots.now c.args.thread) c.args.lag c.loop-position.hops
    (frame-short c.args.slots.now) c.loop-position.invariant.count (λ p h. (
      (λ d q is. c.loop-position.invariant.found p d q (omega arith) is),
      (λ d q t. c.loop-position.invariant.all p d q (omega arith) t),
    ))
