use Rattle.closed_loops.proofs.Alone.{loop-isolation}
use Rattle.closed_loops.proofs.runs_alone_in_loop.Goals as goal

pub returns : goal.returns
returns c = loop-isolation c.runs_alone.ensures
