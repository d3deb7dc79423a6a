use Rattle.std.proofs.Common.{arith}
use Rattle.slot_table.proofs.Shift.{shifted}
use Rattle.slot_table.proofs.nibbles.nibble.Goals as goal

pub returns-clause-value : goal.returns-clause-value
returns-clause-value c = grind (arith, shifted)
