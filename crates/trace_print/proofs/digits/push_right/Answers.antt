use Rattle.std.proofs.Common.{arith, rules}
use Rattle.std.proofs.lemmas.Grind.{common_steps}
use Rattle.trace_print.specs.Digits.{right}
use Rattle.trace_print.proofs.digits.push_right.Goals as goal

pub loop-column-init : goal.loop-column-init
unfolding right
loop-column-init c = search rules

pub returns-clause-text : goal.returns-clause-text
unfolding right
returns-clause-text c = grind (arith, common_steps)

pub returns-clause-len : goal.returns-clause-len
returns-clause-len c = grind (arith, common_steps)

pub loop-column-preserved : goal.loop-column-preserved
unfolding right
loop-column-preserved c = grind (arith, common_steps)
