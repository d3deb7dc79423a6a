use Rattle.std.proofs.Common.{arith}
use Rattle.std.proofs.lemmas.Grind.{common_steps}
use Rattle.command_line.proofs.given.gives_each_once.Goals as goal

pub loop-option-init : goal.loop-option-init
loop-option-init c = grind (arith, common_steps)

pub loop-option-preserved : goal.loop-option-preserved
loop-option-preserved c = grind (arith, common_steps)

pub returns : goal.returns
returns c = grind (arith, common_steps)

pub returns-then-not-is_given_once : goal.returns-then-not-is_given_once
returns-then-not-is_given_once c = grind (arith, common_steps)

pub returns-then-not-is_given_once-2 : goal.returns-then-not-is_given_once-2
returns-then-not-is_given_once-2 c = grind (arith, common_steps)
