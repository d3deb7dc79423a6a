use Rattle.std.proofs.Common.{rules}
use Rattle.flexpret_top.proofs.command.write_difference.Goals as goal

pub returns-in-Ok-clause-ends : goal.returns-in-Ok-clause-ends
returns-in-Ok-clause-ends c = search rules
