-- A comparison without sign.
use Rattle.std.proofs.Common.{arith}
use Rattle.std.proofs.lemmas.Grind.{common_steps}
use Rattle.rv_exec.specs.Alu.{alu_result_with}
use Rattle.rv_exec.proofs.alu.compute_with.Goals as goal

pub returns-in-Sltiu : goal.returns-in-Sltiu
unfolding alu_result_with
returns-in-Sltiu c = grind (arith, common_steps)
