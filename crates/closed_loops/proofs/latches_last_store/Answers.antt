use Rattle.closed_loops.proofs.Latches.{latch-of-stores}
use Rattle.closed_loops.proofs.latches_last_store.Goals as goal

pub returns : goal.returns
returns c = latch-of-stores
