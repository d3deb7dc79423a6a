use Rattle.closed_laws.proofs.InLoops.{quiet-loops}
use Rattle.closed_laws.proofs.traces.keeps_loops_quiet.Goals as goal

pub returns : goal.returns
returns c = quiet-loops c.stays_quiet.ensures
