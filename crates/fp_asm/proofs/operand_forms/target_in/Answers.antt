use Rattle.std.proofs.Common.{arith}
use Rattle.std.proofs.lemmas.Grind.{common_steps}
use Rattle.fp_asm.specs.Operands.{target_in}
use Rattle.fp_asm.proofs.operand_forms.target_in.Goals as goal

pub returns-in-Name : goal.returns-in-Name
unfolding target_in
returns-in-Name c = grind (arith, common_steps)

pub returns-in-Name-2 : goal.returns-in-Name-2
unfolding target_in
returns-in-Name-2 c = grind (arith, common_steps)

pub returns-in-Name-3 : goal.returns-in-Name-3
unfolding target_in
returns-in-Name-3 c = grind (arith, common_steps)

pub returns-in_default : goal.returns-in_default
unfolding target_in
returns-in_default c = grind (arith, common_steps)
