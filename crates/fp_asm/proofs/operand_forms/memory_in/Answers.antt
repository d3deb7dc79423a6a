use Rattle.std.proofs.Common.{arith}
use Rattle.std.proofs.lemmas.Grind.{common_steps}
use Rattle.fp_asm.specs.Operands.{memory_in}
use Rattle.fp_asm.proofs.operand_forms.memory_in.Goals as goal

pub returns-in_default : goal.returns-in_default
unfolding memory_in
returns-in_default c = grind (arith, common_steps)

pub returns-in_default-2 : goal.returns-in_default-2
unfolding memory_in
returns-in_default-2 c = grind (arith, common_steps)

pub returns-in_default-3 : goal.returns-in_default-3
unfolding memory_in
returns-in_default-3 c = grind (arith, common_steps)

pub returns-in_default-4 : goal.returns-in_default-4
unfolding memory_in
returns-in_default-4 c = grind (arith, common_steps)

pub returns-in_default-5 : goal.returns-in_default-5
unfolding memory_in
returns-in_default-5 c = grind (arith, common_steps)

pub returns-in_default-6 : goal.returns-in_default-6
unfolding memory_in
returns-in_default-6 c = grind (arith, common_steps)

pub returns-in_default-7 : goal.returns-in_default-7
unfolding memory_in
returns-in_default-7 c = grind (arith, common_steps)

pub returns-in_default-8 : goal.returns-in_default-8
unfolding memory_in
returns-in_default-8 c = grind (arith, common_steps)

pub returns-in_default-9 : goal.returns-in_default-9
unfolding memory_in
returns-in_default-9 c = grind (arith, common_steps)

pub returns-in_default-10 : goal.returns-in_default-10
unfolding memory_in
returns-in_default-10 c = grind (arith, common_steps)

pub returns-in_default-11 : goal.returns-in_default-11
unfolding memory_in
returns-in_default-11 c = grind (arith, common_steps)

pub returns-in-None : goal.returns-in-None
unfolding memory_in
returns-in-None c = grind (arith, common_steps)

pub returns-in-None-register : goal.returns-in-None-register
unfolding memory_in
returns-in-None-register c = grind (arith, common_steps)

pub returns-in-Some : goal.returns-in-Some
unfolding memory_in
returns-in-Some c = grind (arith, common_steps)

pub returns-in-Some-register : goal.returns-in-Some-register
unfolding memory_in
returns-in-Some-register c = grind (arith, common_steps)
