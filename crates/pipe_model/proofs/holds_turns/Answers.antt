use Rattle.pipe_model.proofs.Holding.{held}
use Rattle.pipe_model.proofs.holds_turns.Goals as goal

pub returns : goal.returns
returns c = held
