use Rattle.std.proofs.Common.{◌≡◌, ℕ, ◌<◌, length}
use Rattle.selfrun.specs.Folds.{IsPieceAt, lower_text}
use Rattle.selfrun.proofs.cycles.lower_pieces.Given as goal

abbrev pub invariant-loop-n : goal.invariant-loop-n
invariant-loop-n l = record {
  count : length l.pieces ≡ 100;
  set : (n : ℕ) → n < l.n → IsPieceAt l.pieces n (lower_text n);
}
