use Rattle.visit_bounds.proofs.Links.{follows-from}
use Rattle.visit_bounds.proofs.sections.follows_edges.Goals as goal

pub returns : goal.returns
returns c = follows-from c.follows_edges_in_settings.ensures
