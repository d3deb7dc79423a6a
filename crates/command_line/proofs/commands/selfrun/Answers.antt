use Rattle.std.proofs.Common.{arith}
use Rattle.std.proofs.lemmas.Grind.{common_steps}
use Rattle.command_line.proofs.commands.selfrun.Goals as goal

pub returns-in-Some-clause-asked : goal.returns-in-Some-clause-asked
returns-in-Some-clause-asked c = grind (arith, common_steps)

pub returns-in-None-clause-refused : goal.returns-in-None-clause-refused
returns-in-None-clause-refused c = grind (arith, common_steps)

pub returns-then-texts-ne1-clause-refused : goal.returns-then-texts-ne1-clause-refused
returns-then-texts-ne1-clause-refused c = grind (arith, common_steps)
