use Rattle.closed_laws.proofs.Bounded.{call-visits-in-settings}
use Rattle.closed_laws.proofs.visits.loop_calls_stay_bounded_in_settings.Goals as goal

pub returns : goal.returns
returns c = call-visits-in-settings c.stays_bounded_in_settings.ensures
