use Rattle.std.proofs.Common.{rules}
use Rattle.scratchpad.proofs.memory.byte_1.Goals as goal

pub returns-then-lanes-eq1 : goal.returns-then-lanes-eq1
returns-then-lanes-eq1 c = search rules

pub returns-else-lanes-eq1 : goal.returns-else-lanes-eq1
returns-else-lanes-eq1 c = search rules
