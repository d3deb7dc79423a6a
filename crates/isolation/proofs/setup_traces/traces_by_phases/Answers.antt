use Rattle.isolation.proofs.Retired.{trace-by-phases-from}
use Rattle.isolation.proofs.setup_traces.traces_by_phases.Goals as goal

pub returns : goal.returns
returns c = trace-by-phases-from c.traces_by_phases.ensures
