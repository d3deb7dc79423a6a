-- The lines of a thread's events, as an observer puts them.
use Rattle.std.specs.Prelude.{ℕ, ◌==◌, if◌then◌else◌, List, [], Option, Some, None}
use Rattle.rv_exec.specs.declared.outcome.Event.{Event}
use Rattle.trace_print.specs.Text.{line_text}
use Rattle.machine.specs.declared.thread_lines.ThreadLines.{ThreadLines}
use Rattle.machine.specs.Observing.{Acts}

-- the line of an event, if there is one, in place of another
abbrev pub line_with : List ℕ → Option Event → List ℕ
line_with line None = line
line_with line (Some e) = line_text e

-- only an event of the thread makes a line, and it puts that line
abbrev pub line_acts : Acts ThreadLines
line_acts = record {
  next =
      λ o e. if e.thread == o.thread then record { thread = o.thread; line = line_text e } else o;
  puts = λ o e. if e.thread == o.thread then line_text e else [];
  ready = λ o. o.line;
}
