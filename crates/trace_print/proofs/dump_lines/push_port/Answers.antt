use Rattle.std.proofs.Common.{rules}
use Rattle.trace_print.specs.DumpLines.{port_text}
use Rattle.trace_print.proofs.dump_lines.push_port.Goals as goal

pub returns-in-None-clause-text : goal.returns-in-None-clause-text
unfolding port_text
returns-in-None-clause-text c = search rules
