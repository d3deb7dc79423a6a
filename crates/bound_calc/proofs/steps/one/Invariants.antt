use Rattle.std.proofs.Common.{◌≡◌, ℕ, ◌<◌, length, slice_index_or, None, Some, []}
use Rattle.region_tree.specs.Walk.{IsOwn}
use Rattle.bound_calc.specs.Best.{Stays}
use Rattle.bound_calc.specs.Bound.{positions}
use Rattle.bound_calc.proofs.steps.one.Given as goal

abbrev pub invariant-loop-position : goal.invariant-loop-position
invariant-loop-position l = record {
  count : length l.best ≡ 8;
  rows : (k : ℕ) → k < l.position → record {
    found : (q d : ℕ) → q < 8 → slice_index_or (slice_index_or l.best k []) q None ≡ Some d →
        Stays (IsOwn (positions l.slots l.thread)) k d q;
    all : (q d : ℕ) → Stays (IsOwn (positions l.slots l.thread)) k d q →
        slice_index_or (slice_index_or l.best k []) q None ≡ Some d;
  };
}
