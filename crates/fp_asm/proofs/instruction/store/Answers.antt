use Rattle.std.proofs.Common.{arith}
use Rattle.std.proofs.lemmas.Grind.{common_steps}
use Rattle.fp_asm.specs.Words.{instruction}
use Rattle.fp_asm.proofs.instruction.store.Goals as goal

pub returns-clause-instruction : goal.returns-clause-instruction
unfolding instruction
returns-clause-instruction c = grind (arith, common_steps)

pub returns-in_err-imm-clause-instruction : goal.returns-in_err-imm-clause-instruction
unfolding instruction
returns-in_err-imm-clause-instruction c = grind (arith, common_steps)
