use Rattle.std.proofs.Common.{rules}
use Rattle.machine.proofs.state.Machine.sleep_moment.Goals as goal

pub returns-else-is_active : goal.returns-else-is_active
returns-else-is_active c = search rules
