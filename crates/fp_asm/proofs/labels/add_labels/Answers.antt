use Rattle.std.proofs.Common.{map, drop}
use Rattle.fp_asm.specs.AbstractPieces.{abstract_piece, abstract_labels}
use Rattle.fp_asm.proofs.LabelByLabel.{stop_step}
use Rattle.fp_asm.proofs.labels.add_labels.Goals as goal

pub returns-in-Err-clause-refused : goal.returns-in-Err-clause-refused
returns-in-Err-clause-refused c =
    stop_step _ c.args.location (abstract_labels c.loop-text.labels) c.in-Some.text.now
    (map abstract_piece (drop c.loop-text.n c.args.pieces.now)) _ c.in-Err.stop
    c.loop-text.invariant.so_far c.in-Some.ensures.some c.in-Err.ensures.refused
