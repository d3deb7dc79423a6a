use Rattle.loop_runs.proofs.Alone.{sampled-alone}
use Rattle.loop_runs.proofs.laws.runs_alone_in_loops.Goals as goal

pub returns : goal.returns
returns c = sampled-alone c.runs_alone_in_loop.ensures c.has_closed_loops.ensures
