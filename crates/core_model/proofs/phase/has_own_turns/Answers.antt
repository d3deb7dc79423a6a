use Rattle.core_model.proofs.Positions.{own-positions}
use Rattle.core_model.proofs.phase.has_own_turns.Goals as goal

pub returns : goal.returns
returns c = own-positions
