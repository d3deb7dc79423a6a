use Rattle.closed_laws.proofs.InLoops.{equal-loop-traces}
use Rattle.closed_laws.proofs.traces.writes_equal_loop_traces.Goals as goal

pub returns : goal.returns
returns c = equal-loop-traces c.traces_alone_in_loop.ensures
