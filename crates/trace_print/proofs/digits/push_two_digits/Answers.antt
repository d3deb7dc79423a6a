use Rattle.std.proofs.Common.{arith}
use Rattle.std.proofs.lemmas.Grind.{common_steps}
use Rattle.trace_print.specs.Digits.{two_digits}
use Rattle.trace_print.proofs.digits.push_two_digits.Goals as goal

pub overflow_add-number : goal.overflow_add-number
overflow_add-number c = omega arith

pub overflow_add-number-2 : goal.overflow_add-number-2
overflow_add-number-2 c = omega arith

pub returns-clause-text : goal.returns-clause-text
unfolding two_digits
returns-clause-text c = grind (arith, common_steps)

pub returns-clause-len : goal.returns-clause-len
returns-clause-len c = grind (arith, common_steps)
