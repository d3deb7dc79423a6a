use Rattle.std.proofs.Common.{rules}
use Rattle.trace_print.specs.DumpLines.{cycles_text}
use Rattle.trace_print.proofs.dump_lines.cycles_line.Goals as goal

pub returns : goal.returns
unfolding cycles_text
returns c = search rules
