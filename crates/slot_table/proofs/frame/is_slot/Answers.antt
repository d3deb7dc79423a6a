-- A thread, or the soft threads.
use Rattle.std.proofs.Common.{rules}
use Rattle.slot_table.proofs.frame.is_slot.Goals as goal

pub returns-then-nibble-eq-SOFT : goal.returns-then-nibble-eq-SOFT
returns-then-nibble-eq-SOFT c = search rules
