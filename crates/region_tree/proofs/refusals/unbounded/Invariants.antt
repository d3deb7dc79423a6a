use Rattle.std.proofs.Common.{ℕ, ◌<◌}
use Rattle.region_tree.specs.Refusals.{UnboundedAt}
use Rattle.region_tree.specs.Search.{address}
use Rattle.region_tree.specs.Tree.{graph}
use Rattle.region_tree.proofs.refusals.unbounded.Given as goal

abbrev pub invariant-loop-index : goal.invariant-loop-index
invariant-loop-index l = (k : ℕ) → k < l.index → UnboundedAt (graph l.draft) (address l.draft k) → ⊥
