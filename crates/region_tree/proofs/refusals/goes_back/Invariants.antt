use Rattle.std.proofs.Common.{◌≡◌, ℕ, ◌<◌}
use Rattle.region_tree.specs.Graph.{Holds}
use Rattle.region_tree.specs.Nesting.{loop_at}
use Rattle.region_tree.proofs.refusals.goes_back.Given as goal

abbrev pub invariant-loop-j : goal.invariant-loop-j
invariant-loop-j l =
    (k : ℕ) → k < l.j-index → l.to ≡ (loop_at l.loops k).head → Holds (loop_at l.loops k) l.from → ⊥
