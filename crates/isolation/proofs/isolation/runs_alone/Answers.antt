use Rattle.isolation.proofs.Retired.{isolation-from}
use Rattle.isolation.proofs.isolation.runs_alone.Goals as goal

pub returns : goal.returns
returns c = isolation-from c.runs_alone.ensures
