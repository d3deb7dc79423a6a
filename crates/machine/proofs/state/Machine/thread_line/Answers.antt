use Rattle.std.proofs.Common.{rules}
use Rattle.machine.specs.Fields.{thread_line}
use Rattle.machine.proofs.state.Machine.thread_line.Goals as goal

pub returns-in_default : goal.returns-in_default
unfolding thread_line
returns-in_default g c = search rules
