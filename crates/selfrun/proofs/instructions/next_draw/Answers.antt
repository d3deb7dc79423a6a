use Rattle.std.proofs.Common.{rules}
use Rattle.selfrun.specs.Drawn.{next_draw}
use Rattle.selfrun.proofs.instructions.next_draw.Goals as goal

pub returns : goal.returns
unfolding next_draw
returns c = search rules
