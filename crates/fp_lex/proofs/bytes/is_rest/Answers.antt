-- A digit.
use Rattle.std.proofs.Common.{arith}
use Rattle.std.proofs.lemmas.Grind.{common_steps}
use Rattle.fp_lex.proofs.bytes.is_rest.Goals as goal

pub returns-else-is_head : goal.returns-else-is_head
returns-else-is_head c = grind (arith, common_steps)
