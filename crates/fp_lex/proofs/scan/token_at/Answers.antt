use Rattle.std.proofs.Common.{arith}
use Rattle.fp_lex.proofs.Runs.{run_some}
use Rattle.std.proofs.lemmas.Grind.{common_steps}
use Rattle.fp_lex.specs.Tokens.{token_at}
use Rattle.fp_lex.proofs.scan.token_at.Goals as goal

pub returns-then-is_head-clause-end : goal.returns-then-is_head-clause-end
returns-then-is_head-clause-end c = grind (arith, run_some)

pub returns-then-is_head-clause-token : goal.returns-then-is_head-clause-token
unfolding token_at
returns-then-is_head-clause-token c = grind (arith, common_steps)

pub returns-then-is_digit-clause-token : goal.returns-then-is_digit-clause-token
unfolding token_at
returns-then-is_digit-clause-token c = grind (arith, common_steps)

pub returns-then-is_mark-clause-token : goal.returns-then-is_mark-clause-token
unfolding token_at
returns-then-is_mark-clause-token c = grind (arith, common_steps)

pub returns-else-is_mark-clause-token : goal.returns-else-is_mark-clause-token
unfolding token_at
returns-else-is_mark-clause-token c = grind (arith, common_steps)
