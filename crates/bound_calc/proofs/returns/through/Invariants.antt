use Rattle.bound_calc.specs.Best.{IsBest}
use Rattle.bound_calc.specs.Matrices.{entry}
use Rattle.bound_calc.specs.Propagation.{Ended}
use Rattle.bound_calc.proofs.returns.through.Given as goal

abbrev pub invariant-loop-index : goal.invariant-loop-index
invariant-loop-index l = IsBest (entry l.back) (Ended l.steps l.ends l.at l.index)
