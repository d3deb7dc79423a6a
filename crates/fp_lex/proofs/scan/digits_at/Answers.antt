-- A number, or why it is refused.
use Rattle.std.proofs.Common.{arith}
use Rattle.std.proofs.lemmas.Grind.{common_steps}
use Rattle.fp_lex.specs.Bytes.{fit}
use Rattle.fp_lex.specs.Tokens.{digits_at}
use Rattle.fp_lex.proofs.scan.digits_at.Goals as goal

pub returns-in-Some-clause-token : goal.returns-in-Some-clause-token
unfolding digits_at fit
returns-in-Some-clause-token c = grind (arith, common_steps)

pub returns-in_default-clause-token : goal.returns-in_default-clause-token
unfolding digits_at fit
returns-in_default-clause-token c = grind (arith, common_steps)
