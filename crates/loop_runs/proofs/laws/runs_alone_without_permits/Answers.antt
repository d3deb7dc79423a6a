use Rattle.loop_runs.proofs.Alone.{sampled-unpermitted}
use Rattle.loop_runs.proofs.laws.runs_alone_without_permits.Goals as goal

pub returns : goal.returns
returns c = sampled-unpermitted c.runs_alone_in_loops.ensures c.stays_quiet.ensures
