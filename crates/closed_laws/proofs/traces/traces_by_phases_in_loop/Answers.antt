use Rattle.closed_laws.proofs.InLoops.{trace-by-phases-in-loop}
use Rattle.closed_laws.proofs.traces.traces_by_phases_in_loop.Goals as goal

pub returns : goal.returns
returns c = trace-by-phases-in-loop c.has_closed_loops.ensures
