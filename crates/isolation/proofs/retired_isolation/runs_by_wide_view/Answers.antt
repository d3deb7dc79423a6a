use Rattle.isolation.proofs.Free.{retired-wide-isolation}
use Rattle.isolation.proofs.retired_isolation.runs_by_wide_view.Goals as goal

pub returns : goal.returns
returns c = retired-wide-isolation
