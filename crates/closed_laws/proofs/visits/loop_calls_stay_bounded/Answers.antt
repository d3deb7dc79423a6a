use Rattle.closed_laws.proofs.Bounded.{call-visits-bounded}
use Rattle.closed_laws.proofs.visits.loop_calls_stay_bounded.Goals as goal

pub returns : goal.returns
returns c = call-visits-bounded c.loop_calls_stay_bounded_in_settings.ensures
