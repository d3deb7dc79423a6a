use Rattle.closed_loops.proofs.Latches.{store-delay}
use Rattle.closed_loops.proofs.delays_stores.Goals as goal

pub returns : goal.returns
returns c = store-delay
