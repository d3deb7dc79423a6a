use Rattle.std.proofs.Common.{ℕ, ◌<◌}
use Rattle.region_tree.specs.Search.{address}
use Rattle.region_tree.specs.Tree.{graph}
use Rattle.call_bounds.specs.Build.{HasExitAt}
use Rattle.call_bounds.proofs.escape.first_exit.Given as goal

abbrev pub invariant-loop-index : goal.invariant-loop-index
invariant-loop-index l = (k : ℕ) → k < l.index → HasExitAt (graph l.tree) (address l.tree k) → ⊥
