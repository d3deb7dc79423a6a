use Rattle.std.proofs.Common.{ℕ, ◌<◌, ◌≤◌}
use Rattle.region_tree.specs.Nesting.{loop_at}
use Rattle.bound_calc.proofs.fill.head_below.Given as goal

abbrev pub invariant-loop-j : goal.invariant-loop-j
invariant-loop-j l = record {
  low : l.first ≤ l.head;
  below : l.head < l.address;
  next : (k : ℕ) → k < l.j-index → (loop_at l.loops k).head < l.address →
      (loop_at l.loops k).head ≤ l.head;
}
