use Rattle.std.proofs.Common.{arith}
use Rattle.std.proofs.lemmas.Grind.{common_steps}
use Rattle.fp_lex.specs.Tokens.{number_at}
use Rattle.fp_lex.proofs.scan.number_at.Goals as goal

pub returns-else-is_prefixed-clause-token : goal.returns-else-is_prefixed-clause-token
unfolding number_at
returns-else-is_prefixed-clause-token c = grind (arith, common_steps)

pub returns-else-is_prefixed-clause-end : goal.returns-else-is_prefixed-clause-end
unfolding number_at
returns-else-is_prefixed-clause-end c = grind (arith, common_steps)

pub returns-then-is_prefixed-clause-token : goal.returns-then-is_prefixed-clause-token
unfolding number_at
returns-then-is_prefixed-clause-token c = grind (arith, common_steps)

pub returns-then-is_prefixed-clause-end : goal.returns-then-is_prefixed-clause-end
unfolding number_at
returns-then-is_prefixed-clause-end c = grind (arith, common_steps)
