use Rattle.std.proofs.Common.{rules}
use Rattle.machine.proofs.state.Machine.least_sleep_moment.Goals as goal

pub loop-thread-init : goal.loop-thread-init
loop-thread-init c = search rules
