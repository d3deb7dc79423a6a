-- The whole list.
use Rattle.std.proofs.Common.{arith}
use Rattle.std.proofs.lemmas.Grind.{common_steps}
use Rattle.fp_lex.proofs.token.Tokens.as_slice.Goals as goal

pub returns : goal.returns
returns c = grind (arith, common_steps)
