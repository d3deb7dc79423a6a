use Rattle.std.proofs.Common.{◌≡◌, ℕ, ◌<◌, length}
use Rattle.selfrun.specs.Folds.{IsPieceAt, name_text}
use Rattle.selfrun.proofs.line_fold.register_names.Given as goal

abbrev pub invariant-loop-rd : goal.invariant-loop-rd
invariant-loop-rd l = record {
  count : length l.names ≡ 32;
  set : (rd : ℕ) → rd < l.rd → IsPieceAt l.names rd (name_text rd);
}
