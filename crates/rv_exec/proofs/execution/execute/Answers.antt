-- The two jumps.
use Rattle.std.proofs.Common.{arith}
use Rattle.std.proofs.lemmas.Grind.{common_steps}
use Rattle.rv_exec.specs.Result.{result_of}
use Rattle.rv_exec.proofs.execution.execute.Goals as goal

pub returns-in-Jal-clause-outcome : goal.returns-in-Jal-clause-outcome
unfolding result_of
returns-in-Jal-clause-outcome c = grind (arith, common_steps)

pub returns-in-Jalr-clause-outcome : goal.returns-in-Jalr-clause-outcome
unfolding result_of
returns-in-Jalr-clause-outcome c = grind (arith, common_steps)
