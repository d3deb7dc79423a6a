use Rattle.std.proofs.Common.{rules}
use Rattle.phase_log.proofs.run.begun_by_write.Goals as goal

pub returns-in-1984 : goal.returns-in-1984
returns-in-1984 c = search rules

pub returns-in-1985 : goal.returns-in-1985
returns-in-1985 c = search rules

pub returns-in_default : goal.returns-in_default
returns-in_default c = search rules
