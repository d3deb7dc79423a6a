use Rattle.std.proofs.Common.{rules}
use Rattle.slot_scheduler.specs.Picking.{is_awake}
use Rattle.slot_scheduler.proofs.picking.Sched.is_awake.Goals as goal

pub returns-then-is_active : goal.returns-then-is_active
unfolding is_awake
returns-then-is_active c = search rules
