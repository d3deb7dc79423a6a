use Rattle.std.proofs.Common.{None, slice_index_or}
use Rattle.bound_calc.specs.Matrices.{cell}
use Rattle.bound_calc.proofs.Entries.{over-more, over-none}
use Rattle.bound_calc.proofs.matrix.Matrix.take_row.Goals as goal

pub loop-r-init : goal.loop-r-init
loop-r-init c =
    λ q h. over-none (λ r. slice_index_or c.args.row.now r None) (λ r. cell c.args.self.now r q)
    (slice_index_or c.args.onto.now q None)

pub loop-r-preserved : goal.loop-r-preserved
loop-r-preserved c =
    λ q h.
    over-more c.loop-r.r (λ r. slice_index_or c.args.row.now r None) (λ r. cell c.args.self.now r q)
    (slice_index_or c.args.onto.now q None) (slice_index_or c.loop-r.onto q None)
    (slice_index_or c.take_sums.new.onto q None) (c.loop-r.invariant q h) (c.take_sums.ensures q h)
