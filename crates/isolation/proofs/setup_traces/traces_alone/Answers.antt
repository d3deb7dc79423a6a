use Rattle.isolation.proofs.Retired.{trace-alone-from}
use Rattle.isolation.proofs.setup_traces.traces_alone.Goals as goal

pub returns : goal.returns
returns c = trace-alone-from c.traces_alone.ensures
