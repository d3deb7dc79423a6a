use Rattle.bound_calc.specs.Propagation.{IsFrontier, IsMost, abstract_frontier, over, walks}
use Rattle.bound_calc.specs.Section.{whole}
use Rattle.bound_calc.proofs.MostLaws.{no-word_costs}
use Rattle.bound_calc.proofs.cycle_bound.most.Given as goal

abbrev pub invariant-loop-index : goal.invariant-loop-index
invariant-loop-index l = record {
  frontier : IsFrontier (over l.tree l.steps no-word_costs) l.tree (whole (over l.tree l.steps
      no-word_costs)) l.index
      (abstract_frontier l.frontier);
  most : IsMost (walks l.tree l.steps) l.tree l.index l.most;
}
