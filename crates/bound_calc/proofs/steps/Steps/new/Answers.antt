use Rattle.bound_calc.specs.Bound.{positions}
use Rattle.bound_calc.proofs.Accepted.{frame-short}
use Rattle.bound_calc.proofs.StepLaws.{four}
use Rattle.bound_calc.proofs.steps.Steps.new.Goals as goal

pub invariant_of-result : goal.invariant_of-result
invariant_of-result c = record {
  one = c.one.ensures;
  hops =
      four (positions c.args.slots c.args.thread) c.hop_row.result c.hop_row-2.result
      c.hop_row-3.result c.hop_row-4.result c.hop_row.ensures c.hop_row-2.ensures
      c.hop_row-3.ensures c.hop_row-4.ensures;
  frame = frame-short c.args.slots;
}
