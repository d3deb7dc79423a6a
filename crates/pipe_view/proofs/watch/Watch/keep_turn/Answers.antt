use Rattle.std.proofs.Common.{arith}
use Rattle.std.proofs.lemmas.Grind.{common_steps}
use Rattle.pipe_view.proofs.watch.Watch.keep_turn.Goals as goal

pub returns-clause-turns : goal.returns-clause-turns
returns-clause-turns c = grind (arith, common_steps)
