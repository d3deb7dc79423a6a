use Rattle.std.proofs.Common.{arith}
use Rattle.std.proofs.lemmas.Grind.{common_steps}
use Rattle.phase_log.specs.Text.{phase_text}
use Rattle.phase_log.proofs.line.phase_line.Goals as goal

pub returns : goal.returns
unfolding phase_text
returns c = grind (arith, common_steps)
