use Rattle.pipe_model.proofs.Starting.{starts}
use Rattle.pipe_model.proofs.start_refines.Goals as goal

pub returns : goal.returns
returns c = starts
