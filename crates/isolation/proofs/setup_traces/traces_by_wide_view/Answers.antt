use Rattle.isolation.proofs.Retired.{trace-by-wide-view-from}
use Rattle.isolation.proofs.setup_traces.traces_by_wide_view.Goals as goal

pub returns : goal.returns
returns c = trace-by-wide-view-from c.traces_by_wide_view.ensures
