use Rattle.std.proofs.Common.{arith}
use Rattle.std.proofs.lemmas.Grind.{common_steps}
use Rattle.trace_print.specs.DumpLines.{memory_text}
use Rattle.trace_print.proofs.dump_lines.memory_line.Goals as goal

pub returns : goal.returns
unfolding memory_text
returns c = grind (arith, common_steps)
