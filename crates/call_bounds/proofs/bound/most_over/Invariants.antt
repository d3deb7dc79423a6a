use Rattle.bound_calc.specs.Passing.{IsPass}
use Rattle.bound_calc.specs.Propagation.{costs_on}
use Rattle.call_bounds.specs.Tops.{IsMostBelow}
use Rattle.call_bounds.proofs.bound.most_over.Given as goal

abbrev pub invariant-loop-index : goal.invariant-loop-index
invariant-loop-index l = record {
  pass : IsPass l.function l.steps (costs_on l.word_costs) l.index l.pass;
  most : IsMostBelow l.function l.steps (costs_on l.word_costs) (costs_on l.into) l.index l.most;
}
