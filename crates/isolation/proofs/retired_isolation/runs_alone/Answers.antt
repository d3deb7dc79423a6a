use Rattle.isolation.proofs.Quiet.{retired-isolation}
use Rattle.isolation.proofs.retired_isolation.runs_alone.Goals as goal

pub returns : goal.returns
returns c = retired-isolation
