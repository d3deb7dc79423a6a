use Rattle.std.proofs.Common.{arith}
use Rattle.std.proofs.lemmas.Grind.{common_steps}
use Rattle.command_line.proofs.commands.bound.Goals as goal

pub returns-in_ok-from_str-in-Some-Some-Some-clause-asked :
    goal.returns-in_ok-from_str-in-Some-Some-Some-clause-asked
returns-in_ok-from_str-in-Some-Some-Some-clause-asked c = grind (arith, common_steps)

pub returns-in_default-clause-refused : goal.returns-in_default-clause-refused
returns-in_default-clause-refused c = grind (arith, common_steps)

pub returns-then-texts-ne4-clause-refused : goal.returns-then-texts-ne4-clause-refused
returns-then-texts-ne4-clause-refused c = grind (arith, common_steps)
