-- One row changes.
use Rattle.std.proofs.Common.{rules}
use Rattle.timer_unit.proofs.timers.Timers.get_low.Goals as goal

pub returns-clause-latch : goal.returns-clause-latch
returns-clause-latch c = search rules
