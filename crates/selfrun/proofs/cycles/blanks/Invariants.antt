use Rattle.std.specs.Prelude.{replicate}
use Rattle.selfrun.specs.Folds.{IsPiece}
use Rattle.selfrun.proofs.cycles.blanks.Given as goal

abbrev pub invariant-loop-column : goal.invariant-loop-column
invariant-loop-column l = IsPiece l.piece (replicate l._column 32)
