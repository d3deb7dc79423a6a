use Rattle.closed_loops.proofs.Alone.{equal-loops}
use Rattle.closed_loops.proofs.shows_equal_events.Goals as goal

pub returns : goal.returns
returns c = equal-loops c.runs_alone_in_loop.ensures
