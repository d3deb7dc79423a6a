use Rattle.std.proofs.Common.{rules}
use Rattle.pipe_view.proofs.watch.Watch.keep_start.Goals as goal

pub returns-clause-third : goal.returns-clause-third
returns-clause-third c = search rules
