use Rattle.std.proofs.Common.{rules}
use Rattle.slot_table.proofs.table.SlotTable.frame_len.Goals as goal

pub returns : goal.returns
returns c = search rules
