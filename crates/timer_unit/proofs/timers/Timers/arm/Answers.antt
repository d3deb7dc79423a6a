-- One row changes.
use Rattle.std.proofs.Common.{rules}
use Rattle.timer_unit.proofs.timers.Timers.arm.Goals as goal

pub returns-clause-armed : goal.returns-clause-armed
returns-clause-armed c = search rules
