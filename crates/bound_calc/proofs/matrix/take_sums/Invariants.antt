use Rattle.std.proofs.Common.{◌≡◌, ℕ, ◌<◌, ◌≤◌, None, Some, length, slice_index_or}
use Rattle.bound_calc.specs.Matrices.{larger_of, sum_of}
use Rattle.bound_calc.proofs.matrix.take_sums.Given as goal

abbrev pub invariant-loop-q : goal.invariant-loop-q
invariant-loop-q l = record {
  count : length l.onto ≡ 8;
  taken : (k : ℕ) → k < l.q →
      slice_index_or l.onto k None ≡ larger_of (slice_index_or l.initial.onto k None)
      (sum_of (Some l.first) (slice_index_or l.second k None));
  rest : (k : ℕ) → l.q ≤ k → slice_index_or l.onto k None ≡ slice_index_or l.initial.onto k None;
}
