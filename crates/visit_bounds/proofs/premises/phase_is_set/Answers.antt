use Rattle.visit_bounds.proofs.Starts.{phase-sets}
use Rattle.visit_bounds.proofs.premises.phase_is_set.Goals as goal

pub returns : goal.returns
returns c = phase-sets c.tells_picks.ensures
