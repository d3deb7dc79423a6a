use Rattle.std.proofs.Common.{ℕ, ◌<◌}
use Rattle.region_tree.specs.Nesting.{Crosses, loop_at}
use Rattle.region_tree.proofs.nesting.crossed_here.Given as goal

abbrev pub invariant-loop-earlier : goal.invariant-loop-earlier
invariant-loop-earlier l =
    (k : ℕ) → k < l.earlier → Crosses (loop_at l.loops k) (loop_at l.loops l.later) → ⊥
