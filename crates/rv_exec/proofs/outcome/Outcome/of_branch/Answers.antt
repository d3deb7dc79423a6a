-- A branch that traps.
use Rattle.std.proofs.Common.{arith}
use Rattle.std.proofs.lemmas.Grind.{common_steps}
use Rattle.rv_exec.proofs.outcome.Outcome.of_branch.Goals as goal

pub returns-then-target-ne0 : goal.returns-then-target-ne0
returns-then-target-ne0 c = grind (arith, common_steps)
