use Rattle.std.proofs.Common.{arith}
use Rattle.std.proofs.lemmas.Grind.{common_steps}
use Rattle.fp_asm.specs.Second.{jal_word}
use Rattle.fp_asm.proofs.statement_words.jal.Goals as goal

pub returns : goal.returns
unfolding jal_word
returns c = grind (arith, common_steps)

pub returns-in_err-to : goal.returns-in_err-to
unfolding jal_word
returns-in_err-to c = grind (arith, common_steps)

pub returns-in_err-off : goal.returns-in_err-off
unfolding jal_word
returns-in_err-off c = grind (arith, common_steps)
