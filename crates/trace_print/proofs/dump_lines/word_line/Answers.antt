use Rattle.std.proofs.Common.{arith}
use Rattle.std.proofs.lemmas.Grind.{common_steps}
use Rattle.trace_print.specs.DumpLines.{word_text}
use Rattle.trace_print.proofs.dump_lines.word_line.Goals as goal

pub returns : goal.returns
unfolding word_text
returns c = grind (arith, common_steps)
