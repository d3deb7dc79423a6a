use Rattle.bound_calc.specs.Best.{IsBest}
use Rattle.bound_calc.specs.Context.{body}
use Rattle.bound_calc.specs.Matrices.{entry}
use Rattle.bound_calc.specs.Pass.{Below, Turns}
use Rattle.bound_calc.specs.Propagation.{IsFrontier, abstract_frontier, over, costs_on}
use Rattle.bound_calc.specs.Section.{net}
use Rattle.region_tree.specs.Search.{address}
use Rattle.bound_calc.proofs.rounds.back_at_head.Given as goal

abbrev pub invariant-loop-index : goal.invariant-loop-index
invariant-loop-index l = record {
  frontier : IsFrontier (over l.tree l.steps (costs_on l.word_costs)) l.tree
      (body (net (over l.tree l.steps (costs_on l.word_costs))) l.j) l.index (abstract_frontier
      l.frontier);
  back : IsBest (entry l.back) (Turns (over l.tree l.steps (costs_on l.word_costs)) l.j
      (Below (over l.tree l.steps (costs_on l.word_costs)) (address l.tree l.index)));
}
