use Rattle.std.proofs.Common.{ℕ, ◌<◌}
use Rattle.region_tree.specs.Walk.{IsOwn}
use Rattle.bound_calc.specs.Bound.{positions}
use Rattle.bound_calc.proofs.steps.has_slot.Given as goal

abbrev pub invariant-loop-cycle : goal.invariant-loop-cycle
invariant-loop-cycle l = (p : ℕ) → p < l.cycle → IsOwn (positions l.slots l.thread) p → ⊥
