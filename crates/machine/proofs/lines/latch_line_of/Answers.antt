use Rattle.std.proofs.Common.{ap, ◌∙◌}
use Rattle.trace_print.specs.DumpLines.{latch_text}
use Rattle.machine.proofs.lines.latch_line_of.Goals as goal

pub returns : goal.returns
returns g c = c.latch_line.ensures ∙ ap (latch_text c.args.thread) c.latch_of.ensures
