use Rattle.loop_runs.proofs.FedPorts.{feeds-running}
use Rattle.loop_runs.proofs.feeding.feeds_running.Goals as goal

pub returns : goal.returns
returns c = feeds-running
