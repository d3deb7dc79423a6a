use Rattle.std.proofs.Common.{ap, ◌∙◌}
use Rattle.trace_print.specs.DumpLines.{thread_words_text}
use Rattle.machine.proofs.state.Machine.registers_line.Goals as goal

pub returns : goal.returns
returns c =
    c.thread_words_line.ensures
    ∙ ap (thread_words_text c.args.thread c.args.name.now) c.registers_row.ensures
