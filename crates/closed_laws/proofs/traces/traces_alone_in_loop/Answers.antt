use Rattle.closed_laws.proofs.InLoops.{trace-alone-in-loop}
use Rattle.closed_laws.proofs.traces.traces_alone_in_loop.Goals as goal

pub returns : goal.returns
returns c = trace-alone-in-loop c.runs_alone.ensures c.has_closed_loops.ensures
