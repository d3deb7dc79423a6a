use Rattle.closed_laws.proofs.Bounded.{visits-in-settings}
use Rattle.closed_laws.proofs.visits.loop_visits_stay_bounded_in_settings.Goals as goal

pub returns : goal.returns
returns c = visits-in-settings c.stays_bounded_in_settings.ensures
