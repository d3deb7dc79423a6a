use Rattle.std.proofs.Common.{arith}
use Rattle.std.proofs.lemmas.Grind.{common_steps}
use Rattle.fp_lex.specs.Tokens.{token_in}
use Rattle.fp_lex.proofs.scan.token_in.Goals as goal

pub returns-clause-token : goal.returns-clause-token
unfolding token_in
returns-clause-token c = grind (arith, common_steps)

pub returns-clause-end : goal.returns-clause-end
unfolding token_in
returns-clause-end c = grind (arith, common_steps)

pub returns-in_err-token-clause-token : goal.returns-in_err-token-clause-token
unfolding token_in
returns-in_err-token-clause-token c = grind (arith, common_steps)
