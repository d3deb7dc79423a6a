use Rattle.isolation.proofs.Traces.{retired-trace-alone}
use Rattle.isolation.proofs.retired_traces.traces_alone.Goals as goal

pub returns : goal.returns
returns c = retired-trace-alone c.runs_alone.ensures
