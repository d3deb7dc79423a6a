use Rattle.std.proofs.Common.{ℕ, ◌+◌, ◌-◌, ◌*◌, ◌%◌, ◌<◌, ◌≤◌, length}
use Rattle.slot_table.specs.Frame.{frame}
use Rattle.region_tree.specs.Walk.{IsOwn}
use Rattle.bound_calc.specs.Bound.{positions}
use Rattle.bound_calc.proofs.steps.distance.Given as goal

abbrev pub invariant-loop-cycles : goal.invariant-loop-cycles
invariant-loop-cycles l = record {
  late : l.lag ≤ l.cycles;
  far : l.cycles ≤ l.lag * length (frame l.slots);
  first : (e : ℕ) → l.lag ≤ e → e < l.cycles →
      IsOwn (positions l.slots l.thread) ((l.position + e) % length (frame l.slots)) → ⊥;
}

abbrev pub decreases-loop-cycles : goal.decreases-loop-cycles
decreases-loop-cycles l = l.lag * length (frame l.slots) - l.cycles
