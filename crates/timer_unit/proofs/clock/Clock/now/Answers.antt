-- The time of a cycle.
use Rattle.std.proofs.Common.{rules}
use Rattle.timer_unit.proofs.clock.Clock.now.Goals as goal

pub returns : goal.returns
returns c = search rules
