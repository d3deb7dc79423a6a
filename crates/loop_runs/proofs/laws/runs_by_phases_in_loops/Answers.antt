use Rattle.loop_runs.proofs.Alone.{sampled-phased}
use Rattle.loop_runs.proofs.laws.runs_by_phases_in_loops.Goals as goal

pub returns : goal.returns
returns c = sampled-phased c.runs_by_phases_in_loop.ensures c.has_closed_loops.ensures
