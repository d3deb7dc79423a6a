use Rattle.core_model.proofs.Turns.{next_world}
use Rattle.core_model.proofs.world.goes_by_turns.Goals as goal

pub returns : goal.returns
returns c = next_world
