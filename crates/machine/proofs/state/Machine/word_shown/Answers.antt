use Rattle.std.proofs.Common.{rules}
use Rattle.machine.proofs.state.Machine.word_shown.Goals as goal

pub returns-then-not-may_fetch : goal.returns-then-not-may_fetch
returns-then-not-may_fetch c = search rules

pub returns-else-not-may_fetch : goal.returns-else-not-may_fetch
returns-else-not-may_fetch c = search rules
