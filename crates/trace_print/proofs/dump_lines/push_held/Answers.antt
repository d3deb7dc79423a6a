use Rattle.std.proofs.Common.{append_assoc}
use Rattle.trace_print.specs.DumpLines.{held_text}
use Rattle.trace_print.proofs.dump_lines.push_held.Goals as goal

pub returns-in-Flushed-clause-text : goal.returns-in-Flushed-clause-text
unfolding held_text
returns-in-Flushed-clause-text c =
    rw (c.push_str-in-Flushed.ensures.bytes, c.push_thread-in-Flushed.ensures.text, c.in-Flushed.is)
    (simp append_assoc)

pub returns-in-Issue-clause-text : goal.returns-in-Issue-clause-text
unfolding held_text
returns-in-Issue-clause-text c =
    rw (
      c.push_word-in-Issue.ensures.text,
      c.push_str-in-Issue-2.ensures.bytes,
      c.push_word.ensures.text,
      c.push_str-in-Issue.ensures.bytes,
      c.push_thread-in-Issue.ensures.text,
      c.in-Issue.is,
    )
    (simp append_assoc)
