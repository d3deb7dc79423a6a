use Rattle.std.proofs.Common.{arith}
use Rattle.std.proofs.lemmas.Grind.{common_steps}
use Rattle.fp_asm.specs.Operands.{with_operand}
use Rattle.fp_asm.proofs.operand_forms.fill.Goals as goal

pub returns-in-Some : goal.returns-in-Some
unfolding with_operand
returns-in-Some c = grind (arith, common_steps)

pub returns-in-None : goal.returns-in-None
unfolding with_operand
returns-in-None c = grind (arith, common_steps)

pub returns-in-Some-register_in : goal.returns-in-Some-register_in
unfolding with_operand
returns-in-Some-register_in c = grind (arith, common_steps)

pub returns-in-None-register_in : goal.returns-in-None-register_in
unfolding with_operand
returns-in-None-register_in c = grind (arith, common_steps)

pub returns-in-Some-register_in-2 : goal.returns-in-Some-register_in-2
unfolding with_operand
returns-in-Some-register_in-2 c = grind (arith, common_steps)

pub returns-in-None-register_in-2 : goal.returns-in-None-register_in-2
unfolding with_operand
returns-in-None-register_in-2 c = grind (arith, common_steps)

pub returns-in-Some-csr_in : goal.returns-in-Some-csr_in
unfolding with_operand
returns-in-Some-csr_in c = grind (arith, common_steps)

pub returns-in-None-csr_in : goal.returns-in-None-csr_in
unfolding with_operand
returns-in-None-csr_in c = grind (arith, common_steps)

pub returns-in-Some-number_in : goal.returns-in-Some-number_in
unfolding with_operand
returns-in-Some-number_in c = grind (arith, common_steps)

pub returns-in-None-number_in : goal.returns-in-None-number_in
unfolding with_operand
returns-in-None-number_in c = grind (arith, common_steps)

pub returns-in-Some-memory_in : goal.returns-in-Some-memory_in
unfolding with_operand
returns-in-Some-memory_in c = grind (arith, common_steps)

pub returns-in-None-memory_in : goal.returns-in-None-memory_in
unfolding with_operand
returns-in-None-memory_in c = grind (arith, common_steps)

pub returns-in-Some-target_in : goal.returns-in-Some-target_in
unfolding with_operand
returns-in-Some-target_in c = grind (arith, common_steps)

pub returns-in-None-target_in : goal.returns-in-None-target_in
unfolding with_operand
returns-in-None-target_in c = grind (arith, common_steps)
