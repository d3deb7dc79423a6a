use Rattle.std.proofs.Common.{◌≢◌, ℕ, ◌<◌, slice_index_or}
use Rattle.bound_calc.proofs.fill.loop_at.Given as goal

abbrev pub invariant-loop-j : goal.invariant-loop-j
invariant-loop-j l =
    (k : ℕ) → k < l.j-index →
    l.head ≢ (slice_index_or l.loops k (record { head = 0; last = 0; limit = 0 })).head
