use Rattle.std.proofs.Common.{◌≡◌, ℕ, ◌<◌, length}
use Rattle.bound_calc.specs.Best.{IsBest}
use Rattle.bound_calc.specs.Passing.{IsPass, ReachesAt}
use Rattle.bound_calc.specs.Propagation.{matrix_at, costs_on}
use Rattle.bound_calc.proofs.reached.reach.Given as goal

abbrev pub invariant-loop-index : goal.invariant-loop-index
invariant-loop-index l = record {
  pass : IsPass l.tree l.steps (costs_on l.word_costs) l.index l.pass;
  count : length l.at.items ≡ l.index;
  best : (k : ℕ) → k < l.index →
      IsBest (matrix_at l.at.items k) (ReachesAt l.tree l.steps (costs_on l.word_costs) k);
}
