use Rattle.std.proofs.Common.{ℕ, ◌<◌, slice_index_or}
use Rattle.call_bounds.proofs.OverlapLaws.{Overlaps, none}
use Rattle.call_bounds.proofs.tree.overlap.Given as goal

abbrev pub invariant-loop-routine : goal.invariant-loop-routine
invariant-loop-routine l =
    (k : ℕ) → k < l.routine-index →
    Overlaps l.code.section (slice_index_or l.code.routines k none) → ⊥
