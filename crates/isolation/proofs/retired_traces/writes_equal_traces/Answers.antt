use Rattle.isolation.proofs.Traces.{retired-equal-traces}
use Rattle.isolation.proofs.retired_traces.writes_equal_traces.Goals as goal

pub returns : goal.returns
returns c = retired-equal-traces c.traces_alone.ensures
