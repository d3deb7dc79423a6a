use Rattle.std.proofs.Common.{rules}
use Rattle.flexpret_top.proofs.file_commands.bound.Goals as goal

pub returns-in-Ok-section_bound : goal.returns-in-Ok-section_bound
returns-in-Ok-section_bound g c = search rules

pub returns-in-Ok : goal.returns-in-Ok
returns-in-Ok g c = search rules

pub returns : goal.returns
returns g c = search rules
