use Rattle.isolation.proofs.Retired.{equal-traces-from}
use Rattle.isolation.proofs.setup_traces.writes_equal_traces.Goals as goal

pub returns : goal.returns
returns c = equal-traces-from c.writes_equal_traces.ensures
