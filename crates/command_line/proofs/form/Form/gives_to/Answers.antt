use Rattle.std.proofs.Common.{arith}
use Rattle.std.proofs.lemmas.Grind.{common_steps}
use Rattle.command_line.proofs.form.Form.gives_to.Goals as goal

pub returns-in-Gives : goal.returns-in-Gives
returns-in-Gives c = grind (arith, common_steps)

pub returns-in_default : goal.returns-in_default
returns-in_default c = grind (arith, common_steps)
