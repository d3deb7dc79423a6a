use Rattle.isolation.proofs.Quiet.{retired-phased-isolation}
use Rattle.isolation.proofs.retired_isolation.runs_by_phases.Goals as goal

pub returns : goal.returns
returns c = retired-phased-isolation
