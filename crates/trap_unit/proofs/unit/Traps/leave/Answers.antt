use Rattle.std.proofs.Common.{rules}
use Rattle.trap_unit.proofs.unit.Traps.leave.Goals as goal

pub returns : goal.returns
returns c = search rules
