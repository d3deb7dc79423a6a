use Rattle.std.proofs.Common.{◌≡◌, ℕ, ◌<◌}
use Rattle.region_tree.specs.Graph.{Reachable}
use Rattle.region_tree.specs.Search.{address}
use Rattle.region_tree.specs.Tree.{graph}
use Rattle.region_tree.proofs.refusals.stopped.Given as goal

abbrev pub invariant-loop-index : goal.invariant-loop-index
invariant-loop-index l =
    (k : ℕ) → k < l.index → Reachable (graph l.draft)
    (address l.draft k) × ((graph l.draft).stop (address l.draft k) ≡ l.stop) → ⊥
