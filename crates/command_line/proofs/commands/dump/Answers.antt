use Rattle.std.proofs.Common.{arith}
use Rattle.std.proofs.lemmas.Grind.{common_steps}
use Rattle.command_line.proofs.commands.dump.Goals as goal

pub returns-in_ok-from_str-in-Some-clause-asked : goal.returns-in_ok-from_str-in-Some-clause-asked
returns-in_ok-from_str-in-Some-clause-asked c = grind (arith, common_steps)

pub returns-in_ok-from_str-in-Some-clause-limits : goal.returns-in_ok-from_str-in-Some-clause-limits
returns-in_ok-from_str-in-Some-clause-limits c = grind (arith, common_steps)

pub returns-in-None-clause-refused : goal.returns-in-None-clause-refused
returns-in-None-clause-refused c = grind (arith, common_steps)

pub returns-then-texts-ne2-clause-refused : goal.returns-then-texts-ne2-clause-refused
returns-then-texts-ne2-clause-refused c = grind (arith, common_steps)
