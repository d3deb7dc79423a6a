-- One row changes.
use Rattle.std.proofs.Common.{rules}
use Rattle.timer_unit.proofs.timers.Timers.disarm.Goals as goal

pub returns-clause-disarmed : goal.returns-clause-disarmed
returns-clause-disarmed c = search rules
