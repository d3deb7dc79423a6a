use Rattle.loop_runs.proofs.Forgetting.{keeps-three}
use Rattle.loop_runs.proofs.feeding.keeps_three.Goals as goal

pub returns : goal.returns
returns c = keeps-three
