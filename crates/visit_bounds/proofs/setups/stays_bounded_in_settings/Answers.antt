use Rattle.visit_bounds.proofs.Starts.{visits_in_settings}
use Rattle.visit_bounds.proofs.setups.stays_bounded_in_settings.Goals as goal

pub returns : goal.returns
returns c = visits_in_settings c.stays_bounded_in_settings.ensures
