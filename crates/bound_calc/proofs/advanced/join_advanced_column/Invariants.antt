use Rattle.std.proofs.Common.{◌≡◌, ℕ, ◌<◌, ◌≤◌, Some, length, slice_index_or, []}
use Rattle.bound_calc.specs.Hops.{raised}
use Rattle.bound_calc.specs.Matrices.{cell}
use Rattle.bound_calc.proofs.advanced.join_advanced_column.Given as goal

abbrev pub invariant-loop-p : goal.invariant-loop-p
invariant-loop-p l = record {
  count : length l.onto.best ≡ 8;
  taken : (k : ℕ) → k < l.p → slice_index_or l.onto.best k []
      ≡ raised (cell l.here k l.column) (Some l.hop) (slice_index_or l.initial.onto.best k []);
  long : (k : ℕ) → k < l.p → length (slice_index_or l.initial.onto.best k []) ≡ 8;
  rest : (k : ℕ) → l.p ≤ k →
      slice_index_or l.onto.best k [] ≡ slice_index_or l.initial.onto.best k [];
}
