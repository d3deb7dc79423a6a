use Rattle.isolation.proofs.Equal.{retired-equal-views}
use Rattle.isolation.proofs.retired_isolation.shows_equal_events.Goals as goal

pub returns : goal.returns
returns c = retired-equal-views c.runs_alone.ensures
