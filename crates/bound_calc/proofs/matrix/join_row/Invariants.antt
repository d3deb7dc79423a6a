use Rattle.std.proofs.Common.{◌≡◌, ℕ, ◌<◌, None, length, slice_index_or}
use Rattle.bound_calc.specs.Matrices.{larger_of}
use Rattle.bound_calc.proofs.matrix.join_row.Given as goal

abbrev pub invariant-loop-q : goal.invariant-loop-q
invariant-loop-q l = record {
  count : length l.row ≡ 8;
  joined : (k : ℕ) → k < l.q → slice_index_or l.row k None
      ≡ larger_of (slice_index_or l.a k None) (slice_index_or l.b k None);
}
