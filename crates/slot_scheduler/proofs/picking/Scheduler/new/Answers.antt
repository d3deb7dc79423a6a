-- The first search starts with thread 0.
use Rattle.std.proofs.Common.{refl}
use Rattle.slot_scheduler.proofs.picking.Scheduler.new.Goals as goal

pub returns : goal.returns
returns c = refl
