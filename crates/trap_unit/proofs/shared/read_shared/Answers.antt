use Rattle.std.proofs.Common.{rules}
use Rattle.trap_unit.proofs.shared.read_shared.Goals as goal

pub returns-in-1986 : goal.returns-in-1986
returns-in-1986 c = search rules
