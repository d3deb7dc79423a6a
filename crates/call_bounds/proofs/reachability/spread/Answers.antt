use Rattle.std.proofs.Common.{arith}
use Rattle.std.proofs.lemmas.Grind.{common_steps}
use Rattle.call_bounds.proofs.reachability.spread.Goals as goal

pub loop-callee-preserved : goal.loop-callee-preserved
loop-callee-preserved c = grind (arith, common_steps)
