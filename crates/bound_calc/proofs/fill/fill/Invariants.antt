use Rattle.std.proofs.Common.{◌≡◌, ◌≤◌, length}
use Rattle.bound_calc.specs.Propagation.{IsFilled, over, costs_on}
use Rattle.bound_calc.proofs.fill.fill.Given as goal

abbrev pub invariant-loop-index : goal.invariant-loop-index
invariant-loop-index l = record {
  top : l.index ≤ length l.tree.words;
  filled : IsFilled (over l.tree l.steps (costs_on l.word_costs)) l.tree l.index l.powers.items;
  room : length l.frontier.waiting.items ≡ length l.tree.words;
}

abbrev pub decreases-loop-index : goal.decreases-loop-index
decreases-loop-index l = l.index
