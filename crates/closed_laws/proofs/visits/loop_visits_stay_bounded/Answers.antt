use Rattle.closed_laws.proofs.Bounded.{visits-bounded}
use Rattle.closed_laws.proofs.visits.loop_visits_stay_bounded.Goals as goal

pub returns : goal.returns
returns c = visits-bounded c.loop_visits_stay_bounded_in_settings.ensures
