use Rattle.std.proofs.Common.{rules}
use Rattle.slot_table.proofs.frame.turn_named.Goals as goal

pub returns-in_default : goal.returns-in_default
returns-in_default c = search rules
