use Rattle.visit_bounds.proofs.CallBounded.{call_visits_in_settings}
use Rattle.visit_bounds.proofs.calls.stays_bounded_in_settings.Goals as goal

pub returns : goal.returns
returns c = call_visits_in_settings
