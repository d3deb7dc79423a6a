use Rattle.isolation.proofs.Retired.{equal-views-from}
use Rattle.isolation.proofs.isolation.shows_equal_events.Goals as goal

pub returns : goal.returns
returns c = equal-views-from c.shows_equal_events.ensures
