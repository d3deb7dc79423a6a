use Rattle.std.proofs.Common.{arith}
use Rattle.std.proofs.lemmas.Grind.{common_steps}
use Rattle.command_line.proofs.numbers.thread_of_bytes.Goals as goal

pub returns-then-digits-ne1-clause-value : goal.returns-then-digits-ne1-clause-value
returns-then-digits-ne1-clause-value c = grind (arith, common_steps)

pub returns-in-48-to-55-clause-value : goal.returns-in-48-to-55-clause-value
returns-in-48-to-55-clause-value c = grind (arith, common_steps)

pub returns-in_default-clause-value : goal.returns-in_default-clause-value
returns-in_default-clause-value c = grind (arith, common_steps)

pub returns-in_default-2-clause-value : goal.returns-in_default-2-clause-value
returns-in_default-2-clause-value c = grind (arith, common_steps)
