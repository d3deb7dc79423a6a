use Rattle.isolation.proofs.Retired.{wide-from}
use Rattle.isolation.proofs.isolation.runs_by_wide_view.Goals as goal

pub returns : goal.returns
returns c = wide-from c.runs_by_wide_view.ensures
