use Rattle.isolation.proofs.Traces.{retired-trace-by-phases}
use Rattle.isolation.proofs.retired_traces.traces_by_phases.Goals as goal

pub returns : goal.returns
returns c = retired-trace-by-phases c.runs_by_phases.ensures
