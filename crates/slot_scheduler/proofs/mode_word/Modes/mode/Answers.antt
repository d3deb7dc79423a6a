-- Two bits of the word.
use Rattle.std.proofs.Common.{arith}
use Rattle.slot_scheduler.proofs.Shift.{shifted}
use Rattle.slot_scheduler.proofs.mode_word.Modes.mode.Goals as goal

pub returns-clause-mode : goal.returns-clause-mode
returns-clause-mode c = grind (arith, shifted)
