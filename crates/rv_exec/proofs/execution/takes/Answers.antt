-- At least, with sign.
use Rattle.std.proofs.Common.{arith}
use Rattle.std.proofs.lemmas.Grind.{common_steps}
use Rattle.rv_exec.specs.Result.{is_taken}
use Rattle.rv_exec.proofs.execution.takes.Goals as goal

pub returns-in-Bge : goal.returns-in-Bge
unfolding is_taken
returns-in-Bge c = grind (arith, common_steps)
