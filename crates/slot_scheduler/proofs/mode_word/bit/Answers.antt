use Rattle.std.proofs.Common.{rules}
use Rattle.slot_scheduler.proofs.mode_word.bit.Goals as goal

pub returns-clause-bit : goal.returns-clause-bit
returns-clause-bit c = search rules
