use Rattle.std.proofs.Common.{rules}
use Rattle.slot_table.proofs.frame.magic_of.Goals as goal

pub returns : goal.returns
returns c = search rules
