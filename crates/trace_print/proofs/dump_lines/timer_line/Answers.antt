use Rattle.std.proofs.Common.{append_assoc}
use Rattle.trace_print.specs.DumpLines.{timer_text}
use Rattle.trace_print.proofs.dump_lines.timer_line.Goals as goal

pub returns : goal.returns
unfolding timer_text
returns c =
    rw (
      c.push_str-2.ensures.bytes,
      c.push_sleep.ensures.text,
      c.push_moment.ensures.text,
      c.push_str.ensures.bytes,
      c.push_thread.ensures.text,
      c.new-text.ensures,
    )
    (simp append_assoc)
