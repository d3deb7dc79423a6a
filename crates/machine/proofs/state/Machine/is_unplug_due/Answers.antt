use Rattle.std.proofs.Common.{rules}
use Rattle.machine.proofs.state.Machine.is_unplug_due.Goals as goal

pub returns-then-self-ge-CYCLES_TO_M : goal.returns-then-self-ge-CYCLES_TO_M
returns-then-self-ge-CYCLES_TO_M c = search rules
