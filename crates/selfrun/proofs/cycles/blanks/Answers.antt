use Rattle.selfrun.proofs.FoldLemmas.{piece_empty}
use Rattle.selfrun.proofs.cycles.blanks.Goals as goal

pub loop-column-init : goal.loop-column-init
loop-column-init c = piece_empty
