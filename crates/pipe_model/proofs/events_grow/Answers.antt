use Rattle.pipe_model.proofs.Events.{grows}
use Rattle.pipe_model.proofs.events_grow.Goals as goal

pub returns : goal.returns
returns c = grows
