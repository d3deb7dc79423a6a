use Rattle.std.proofs.Common.{◌≡◌, ℕ, ◌<◌, ◌≤◌, None, length, [], slice_index_or}
use Rattle.bound_calc.specs.Matrices.{cell, larger_of, over}
use Rattle.bound_calc.proofs.matrix.Matrix.join_chain.Given as goal

abbrev pub invariant-loop-p : goal.invariant-loop-p
invariant-loop-p l = record {
  count : length l.self.best ≡ 8;
  rows : (k : ℕ) → k < l.p → (q : ℕ) → q < 8 →
      slice_index_or (slice_index_or l.self.best k []) q None
      ≡ larger_of (slice_index_or (slice_index_or l.initial.self.best k []) q None) (over 8
      (λ r. slice_index_or (slice_index_or l.first.best k []) r None) (λ r. cell l.second r q));
  rest : (k : ℕ) → l.p ≤ k →
      slice_index_or l.self.best k [] ≡ slice_index_or l.initial.self.best k [];
}
