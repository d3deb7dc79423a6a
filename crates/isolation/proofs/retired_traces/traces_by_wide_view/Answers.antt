use Rattle.isolation.proofs.Traces.{retired-trace-by-wide-view}
use Rattle.isolation.proofs.retired_traces.traces_by_wide_view.Goals as goal

pub returns : goal.returns
returns c = retired-trace-by-wide-view c.runs_by_wide_view.ensures
