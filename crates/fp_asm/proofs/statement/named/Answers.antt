use Rattle.std.proofs.Common.{arith}
use Rattle.std.proofs.lemmas.Grind.{common_steps}
use Rattle.fp_asm.specs.Statements.{statement_named}
use Rattle.fp_asm.proofs.statement.named.Goals as goal

pub returns : goal.returns
unfolding statement_named
returns c = grind (arith, common_steps)

pub returns-in_default : goal.returns-in_default
unfolding statement_named
returns-in_default c = grind (arith, common_steps)

pub returns-in_default-2 : goal.returns-in_default-2
unfolding statement_named
returns-in_default-2 c = grind (arith, common_steps)

pub returns-in_err-check : goal.returns-in_err-check
unfolding statement_named
returns-in_err-check c = grind (arith, common_steps)

pub returns-in_err-operands : goal.returns-in_err-operands
unfolding statement_named
returns-in_err-operands c = grind (arith, common_steps)

pub returns-in_err-statement : goal.returns-in_err-statement
unfolding statement_named
returns-in_err-statement c = grind (arith, common_steps)
