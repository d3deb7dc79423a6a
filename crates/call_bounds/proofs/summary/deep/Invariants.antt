use Rattle.bound_calc.specs.Best.{IsBest}
use Rattle.bound_calc.specs.Matrices.{entry}
use Rattle.bound_calc.specs.Propagation.{costs_on}
use Rattle.call_bounds.specs.Summaries.{Ending}
use Rattle.call_bounds.proofs.summary.deep.Given as goal

abbrev pub invariant-loop-index : goal.invariant-loop-index
invariant-loop-index l = IsBest (entry l.deep) (Ending (costs_on l.into) l.at l.index)
