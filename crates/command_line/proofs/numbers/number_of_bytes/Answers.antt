use Rattle.std.proofs.Common.{arith}
use Rattle.std.proofs.lemmas.Grind.{common_steps}
use Rattle.command_line.specs.Numbers.{number_in}
use Rattle.command_line.proofs.numbers.number_of_bytes.Goals as goal

pub returns-in-Some-clause-value : goal.returns-in-Some-clause-value
unfolding number_in
returns-in-Some-clause-value c = grind (arith, common_steps)

pub returns-in_default-clause-value : goal.returns-in_default-clause-value
unfolding number_in
returns-in_default-clause-value c = grind (arith, common_steps)

pub returns-in_default-2-clause-value : goal.returns-in_default-2-clause-value
unfolding number_in
returns-in_default-2-clause-value c = grind (arith, common_steps)
