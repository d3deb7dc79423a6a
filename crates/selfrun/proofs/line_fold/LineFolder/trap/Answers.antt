use Rattle.selfrun.proofs.FoldLemmas.{trap_parts}
use Rattle.selfrun.proofs.line_fold.LineFolder.trap.Goals as goal

pub returns : goal.returns
returns c =
    rw
    (c.after.ensures _ c.word.ensures, c.folded-2.ensures, c.with_byte-h.ensures, c.folded.ensures)
    (trap_parts c.args.h c.args.cause c.args.target c.requires)
