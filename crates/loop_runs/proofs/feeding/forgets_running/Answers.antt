use Rattle.loop_runs.proofs.Forgetting.{forgets-running}
use Rattle.loop_runs.proofs.feeding.forgets_running.Goals as goal

pub returns : goal.returns
returns c = forgets-running
