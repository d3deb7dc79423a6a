use Rattle.std.proofs.Common.{arith}
use Rattle.std.proofs.lemmas.Grind.{common_steps}
use Rattle.command_line.proofs.numbers.digit_value.Goals as goal

pub returns-in-48-to-57-clause-value : goal.returns-in-48-to-57-clause-value
returns-in-48-to-57-clause-value c = grind (arith, common_steps)

pub returns-in-65-to-70-clause-value : goal.returns-in-65-to-70-clause-value
returns-in-65-to-70-clause-value c = grind (arith, common_steps)

pub returns-in-97-to-102-clause-value : goal.returns-in-97-to-102-clause-value
returns-in-97-to-102-clause-value c = grind (arith, common_steps)

pub returns-in_default-clause-value : goal.returns-in_default-clause-value
returns-in_default-clause-value c = grind (arith, common_steps)

pub returns-in_default-2-clause-value : goal.returns-in_default-2-clause-value
returns-in_default-2-clause-value c = grind (arith, common_steps)

pub returns-in_default-3-clause-value : goal.returns-in_default-3-clause-value
returns-in_default-3-clause-value c = grind (arith, common_steps)

pub returns-in_default-4-clause-value : goal.returns-in_default-4-clause-value
returns-in_default-4-clause-value c = grind (arith, common_steps)
