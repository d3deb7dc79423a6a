use Rattle.pipe_model.proofs.Keeping.{keeps}
use Rattle.pipe_model.proofs.refinement.Goals as goal

pub returns : goal.returns
returns c = keeps
