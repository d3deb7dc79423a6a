use Rattle.isolation.proofs.Traces.{quiet-setup}
use Rattle.isolation.proofs.setup_traces.stays_quiet.Goals as goal

pub returns : goal.returns
returns c = quiet-setup c.stays_quiet.ensures
