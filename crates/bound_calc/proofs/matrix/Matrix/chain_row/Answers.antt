use Rattle.std.proofs.Common.{None, replicate, slice_index_or}
use Rattle.bound_calc.specs.Matrices.{cell, over}
use Rattle.bound_calc.proofs.Entries.{none-larger}
use Rattle.bound_calc.proofs.StepLaws.{get-none}
use Rattle.bound_calc.proofs.matrix.Matrix.chain_row.Goals as goal

pub returns : goal.returns
returns c =
    λ q h. none-larger (slice_index_or (replicate 8 None) q None)
    (over 8 (λ r. slice_index_or c.args.row.now r None) (λ r. cell c.args.self.now r q))
    (slice_index_or c.take_row.new.onto q None) (get-none 8 q) (c.take_row.ensures q h)
