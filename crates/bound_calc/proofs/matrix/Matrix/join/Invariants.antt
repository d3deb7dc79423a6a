use Rattle.std.proofs.Common.{◌≡◌, ℕ, ◌<◌, None, length, [], slice_index_or}
use Rattle.bound_calc.specs.Matrices.{larger_of}
use Rattle.bound_calc.proofs.matrix.Matrix.join.Given as goal

abbrev pub invariant-loop-p : goal.invariant-loop-p
invariant-loop-p l = record {
  count : length l.best ≡ 8;
  rows : (k : ℕ) → k < l.p → (q : ℕ) → q < 8 → slice_index_or (slice_index_or l.best k []) q None
      ≡ larger_of (slice_index_or (slice_index_or l.self.best k []) q None)
      (slice_index_or (slice_index_or l.other.best k []) q None);
}
