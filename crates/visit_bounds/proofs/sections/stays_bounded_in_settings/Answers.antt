use Rattle.visit_bounds.proofs.Visited.{visits_in_settings}
use Rattle.visit_bounds.proofs.sections.stays_bounded_in_settings.Goals as goal

pub returns : goal.returns
returns c = visits_in_settings c.follows_edges_in_settings.ensures
