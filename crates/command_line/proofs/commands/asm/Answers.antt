use Rattle.std.proofs.Common.{arith}
use Rattle.std.proofs.lemmas.Grind.{common_steps}
use Rattle.command_line.proofs.commands.asm.Goals as goal

pub returns-clause-asked : goal.returns-clause-asked
returns-clause-asked c = grind (arith, common_steps)

pub returns-then-texts-ne1-clause-refused : goal.returns-then-texts-ne1-clause-refused
returns-then-texts-ne1-clause-refused c = grind (arith, common_steps)
