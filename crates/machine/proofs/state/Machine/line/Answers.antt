use Rattle.std.proofs.Common.{rules}
use Rattle.machine.specs.Fields.{dump_line}
use Rattle.machine.proofs.state.Machine.line.Goals as goal

pub returns-else-k-lt-FIRST_OF_MEMORY : goal.returns-else-k-lt-FIRST_OF_MEMORY
unfolding dump_line
returns-else-k-lt-FIRST_OF_MEMORY g c = search rules
