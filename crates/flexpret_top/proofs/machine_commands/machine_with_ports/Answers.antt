use Rattle.std.proofs.Common.{refl}
use Rattle.flexpret_top.proofs.machine_commands.machine_with_ports.Goals as goal

-- nothing was fed
pub returns-in-Err-clause-part : goal.returns-in-Err-clause-part
returns-in-Err-clause-part g c = (0, 0, refl)
