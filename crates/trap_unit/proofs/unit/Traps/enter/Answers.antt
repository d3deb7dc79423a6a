use Rattle.std.proofs.Common.{rules}
use Rattle.trap_unit.proofs.unit.Traps.enter.Goals as goal

pub returns-clause-row : goal.returns-clause-row
returns-clause-row c = search rules
