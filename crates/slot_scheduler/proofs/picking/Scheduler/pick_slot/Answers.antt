use Rattle.std.proofs.Common.{rules}
use Rattle.slot_scheduler.proofs.picking.Scheduler.pick_slot.Goals as goal

pub returns-then-is_awake-clause-pick : goal.returns-then-is_awake-clause-pick
returns-then-is_awake-clause-pick c = search rules

pub returns-then-is_awake-clause-pointer : goal.returns-then-is_awake-clause-pointer
returns-then-is_awake-clause-pointer c = search rules

pub returns-else-slot-eq-DISABLED-clause-pick : goal.returns-else-slot-eq-DISABLED-clause-pick
returns-else-slot-eq-DISABLED-clause-pick c = search rules
