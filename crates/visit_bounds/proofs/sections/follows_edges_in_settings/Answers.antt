use Rattle.visit_bounds.proofs.Links.{issues_in_settings}
use Rattle.visit_bounds.proofs.sections.follows_edges_in_settings.Goals as goal

pub returns : goal.returns
returns c = issues_in_settings
