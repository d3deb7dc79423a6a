use Rattle.visit_bounds.proofs.CallStarts.{call_visits_in_settings}
use Rattle.visit_bounds.proofs.setups.calls_stay_bounded_in_settings.Goals as goal

pub returns : goal.returns
returns c = call_visits_in_settings c.stays_bounded_in_settings.ensures
