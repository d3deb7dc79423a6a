-- The count of a thread's events, as an observer keeps it.
use Rattle.std.specs.Prelude.{◌+◌, ◌%◌, ◌^◌, [], slice_set}
use Rattle.rv_exec.specs.declared.outcome.Event.{Event}
use Rattle.trace_print.specs.Text.{line_text}
use Rattle.machine.specs.Observing.{Acts}
use Rattle.selfrun.specs.declared.running.Count.{Count}
use Rattle.selfrun.specs.declared.tally.Tally.{Tally}
use Rattle.selfrun.specs.Text.{fold_of, tally_at}

-- a tally with the next event added, as 32 bits hold it
abbrev pub counted : Tally → Event → Tally
counted t e = record {
  events = (t.events + 1) % 2 ^ 32;
  fold = fold_of t.fold (line_text e);
}

-- each event is counted for its thread, and nothing is put
abbrev pub count_acts : Acts Count
count_acts = record {
  next =
      λ o e. record {
        tallies = slice_set o.tallies e.thread (counted (tally_at o.tallies e.thread) e);
        folder = o.folder;
      };
  puts = λ o e. [];
  ready = λ o. [];
}
