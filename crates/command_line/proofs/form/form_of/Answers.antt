use Rattle.std.proofs.Common.{arith}
use Rattle.std.proofs.lemmas.Grind.{common_steps}
use Rattle.command_line.specs.Forms.{form}
use Rattle.command_line.proofs.form.form_of.Goals as goal

pub returns-in-Some : goal.returns-in-Some
unfolding form
returns-in-Some c = grind (arith, common_steps)

pub returns-in-Some-2 : goal.returns-in-Some-2
unfolding form
returns-in-Some-2 c = grind (arith, common_steps)

pub returns-in-None : goal.returns-in-None
unfolding form
returns-in-None c = grind (arith, common_steps)

pub returns-in-None-2 : goal.returns-in-None-2
unfolding form
returns-in-None-2 c = grind (arith, common_steps)
