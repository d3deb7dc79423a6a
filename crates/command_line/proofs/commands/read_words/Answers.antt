use Rattle.std.proofs.Common.{arith}
use Rattle.std.proofs.lemmas.Grind.{common_steps}
use Rattle.command_line.proofs.commands.read_words.Goals as goal

pub returns-in-None-clause-asked : goal.returns-in-None-clause-asked
returns-in-None-clause-asked c = grind (arith, common_steps)

pub returns-in-None-clause-refused : goal.returns-in-None-clause-refused
returns-in-None-clause-refused c = grind (arith, common_steps)

pub returns-in-Some-command_named-clause-asked : goal.returns-in-Some-command_named-clause-asked
returns-in-Some-command_named-clause-asked c = grind (arith, common_steps)

pub returns-in-Some-command_named-clause-refused : goal.returns-in-Some-command_named-clause-refused
returns-in-Some-command_named-clause-refused c = grind (arith, common_steps)

pub returns-in_default-clause-refused : goal.returns-in_default-clause-refused
returns-in_default-clause-refused c = grind (arith, common_steps)
