use Rattle.std.proofs.Common.{◌≡◌, ◌≤◌, ◌-◌, map, length, drop}
use Rattle.fp_asm.specs.Second.{after_labels}
use Rattle.fp_asm.specs.AbstractPieces.{abstract_piece}
use Rattle.fp_asm.proofs.labels.skip_labels.Given as goal

abbrev pub invariant-loop-text : goal.invariant-loop-text
invariant-loop-text l = record {
  within : l.n ≤ length l.pieces;
  so_far : after_labels (map abstract_piece l.pieces)
      ≡ after_labels (map abstract_piece (drop l.n l.pieces));
}

abbrev pub decreases-loop-text : goal.decreases-loop-text
decreases-loop-text l = length l.pieces - l.n
