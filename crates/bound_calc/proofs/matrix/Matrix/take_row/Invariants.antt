use Rattle.std.proofs.Common.{◌≡◌, ℕ, ◌<◌, None, slice_index_or}
use Rattle.bound_calc.specs.Matrices.{cell, larger_of, over}
use Rattle.bound_calc.proofs.matrix.Matrix.take_row.Given as goal

abbrev pub invariant-loop-r : goal.invariant-loop-r
invariant-loop-r l =
    (q : ℕ) → q < 8 →
    slice_index_or l.onto q None ≡ larger_of (slice_index_or l.initial.onto q None)
    (over l.r (λ r. slice_index_or l.row r None) (λ r. cell l.self r q))
