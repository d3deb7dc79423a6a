use Rattle.std.proofs.Common.{arith}
use Rattle.std.proofs.lemmas.Grind.{common_steps}
use Rattle.fp_asm.specs.Statements.{statement_of}
use Rattle.fp_asm.proofs.statement.statement_after.Goals as goal

pub returns-in-empty : goal.returns-in-empty
unfolding statement_of
returns-in-empty c = grind (arith, common_steps)

pub returns-in_err-statement-in-Name : goal.returns-in_err-statement-in-Name
unfolding statement_of
returns-in_err-statement-in-Name c = grind (arith, common_steps)

pub returns-in_ok-statement-in-Name : goal.returns-in_ok-statement-in-Name
unfolding statement_of
returns-in_ok-statement-in-Name c = grind (arith, common_steps)
