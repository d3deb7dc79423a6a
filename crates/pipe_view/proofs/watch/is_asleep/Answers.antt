use Rattle.std.proofs.Common.{rules}
use Rattle.pipe_view.proofs.watch.is_asleep.Goals as goal

pub returns-else-mode-eq1 : goal.returns-else-mode-eq1
returns-else-mode-eq1 c = search rules
