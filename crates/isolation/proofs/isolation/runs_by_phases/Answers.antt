use Rattle.isolation.proofs.Retired.{phased-from}
use Rattle.isolation.proofs.isolation.runs_by_phases.Goals as goal

pub returns : goal.returns
returns c = phased-from c.runs_by_phases.ensures
