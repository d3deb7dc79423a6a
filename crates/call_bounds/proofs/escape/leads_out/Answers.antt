use Rattle.std.proofs.Common.{arith}
use Rattle.std.proofs.lemmas.Grind.{common_steps}
use Rattle.call_bounds.proofs.escape.leads_out.Goals as goal

pub returns-then-to-section : goal.returns-then-to-section
returns-then-to-section c = grind (arith, common_steps)

pub returns-else-to-section : goal.returns-else-to-section
returns-else-to-section c = grind (arith, common_steps)
