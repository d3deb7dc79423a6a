use Rattle.closed_loops.proofs.Closed.{loops-exist}
use Rattle.closed_loops.proofs.has_closed_loops.Goals as goal

pub returns : goal.returns
returns c = loops-exist
