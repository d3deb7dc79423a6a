use Rattle.std.proofs.Common.{arith}
use Rattle.std.proofs.lemmas.Grind.{common_steps}
use Rattle.trace_print.specs.Refusals.{refusal_text}
use Rattle.trace_print.proofs.refusals.refusal_line.Goals as goal

pub returns : goal.returns
unfolding refusal_text
returns c = grind (arith, common_steps)
