use Rattle.std.proofs.Common.{arith}
use Rattle.std.proofs.lemmas.Grind.{common_steps}
use Rattle.fp_asm.specs.Statements.{statement_in}
use Rattle.fp_asm.proofs.statement.statement_in.Goals as goal

pub returns-clause-statement : goal.returns-clause-statement
unfolding statement_in
returns-clause-statement c = grind (arith, common_steps)

pub returns-in_default-clause-statement : goal.returns-in_default-clause-statement
unfolding statement_in
returns-in_default-clause-statement c = grind (arith, common_steps)

pub returns-in_default-fill_all-clause-statement : goal.returns-in_default-fill_all-clause-statement
unfolding statement_in
returns-in_default-fill_all-clause-statement c = grind (arith, common_steps)

pub returns-then-is_words-clause-statement : goal.returns-then-is_words-clause-statement
unfolding statement_in
returns-then-is_words-clause-statement c = grind (arith, common_steps)
