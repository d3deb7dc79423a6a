use Rattle.std.proofs.Common.{arith}
use Rattle.std.proofs.lemmas.Grind.{common_steps}
use Rattle.fp_asm.specs.Operands.{all_filled}
use Rattle.fp_asm.proofs.Filling.{fill_short}
use Rattle.fp_asm.proofs.operand_forms.+fill_all.Goals as goal

pub returns-in-empty-empty : goal.returns-in-empty-empty
unfolding all_filled
returns-in-empty-empty t c = grind (arith, common_steps, fill_short)

pub returns-in-empty-len1-up : goal.returns-in-empty-len1-up
unfolding all_filled
returns-in-empty-len1-up t c = grind (arith, common_steps, fill_short)

pub returns-in-len1-up-empty : goal.returns-in-len1-up-empty
unfolding all_filled
returns-in-len1-up-empty t c = grind (arith, common_steps, fill_short)

pub returns-in-Some : goal.returns-in-Some
unfolding all_filled
returns-in-Some t c = grind (arith, common_steps, fill_short)

pub returns-in-None : goal.returns-in-None
unfolding all_filled
returns-in-None t c = grind (arith, common_steps, fill_short)
