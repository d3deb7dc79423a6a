use Rattle.std.proofs.lemmas.Grind.{common_steps}
use Rattle.std.proofs.Common.{arith}
use Rattle.fp_setup.specs.Checks.{eight_check}
use Rattle.fp_setup.specs.SetupOfTables.{nibble_word}
use Rattle.fp_setup.proofs.nibble_list.eight.Goals as goal

pub returns-clause-read : goal.returns-clause-read
unfolding eight_check nibble_word
returns-clause-read c = grind (arith, common_steps)

pub returns-in_err-numbers-clause-read : goal.returns-in_err-numbers-clause-read
unfolding eight_check nibble_word
returns-in_err-numbers-clause-read c = grind (arith, common_steps)

pub returns-then-items-ne8-clause-read : goal.returns-then-items-ne8-clause-read
unfolding eight_check nibble_word
returns-then-items-ne8-clause-read c = grind (arith, common_steps)
