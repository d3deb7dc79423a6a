-- A tab.
use Rattle.std.proofs.Common.{arith}
use Rattle.std.proofs.lemmas.Grind.{common_steps}
use Rattle.fp_lex.proofs.bytes.is_blank.Goals as goal

pub returns-else-b-eq32 : goal.returns-else-b-eq32
returns-else-b-eq32 c = grind (arith, common_steps)
