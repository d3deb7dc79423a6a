use Rattle.std.proofs.Common.{arith}
use Rattle.std.proofs.lemmas.Grind.{common_steps}
use Rattle.fp_asm.specs.Operands.{number_in}
use Rattle.fp_asm.proofs.operand_forms.number_in.Goals as goal

pub returns-in-Number : goal.returns-in-Number
unfolding number_in
returns-in-Number c = grind (arith, common_steps)

pub returns-in-Minus : goal.returns-in-Minus
unfolding number_in
returns-in-Minus c = grind (arith, common_steps)

pub returns-in_default : goal.returns-in_default
unfolding number_in
returns-in_default c = grind (arith, common_steps)

pub returns-in_default-2 : goal.returns-in_default-2
unfolding number_in
returns-in_default-2 c = grind (arith, common_steps)

pub returns-in_default-3 : goal.returns-in_default-3
unfolding number_in
returns-in_default-3 c = grind (arith, common_steps)

pub returns-in_default-4 : goal.returns-in_default-4
unfolding number_in
returns-in_default-4 c = grind (arith, common_steps)

pub returns-in_default-5 : goal.returns-in_default-5
unfolding number_in
returns-in_default-5 c = grind (arith, common_steps)
