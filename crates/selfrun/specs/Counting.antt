-- How the tallies of the threads grow as events retire.
use Rattle.std.specs.Prelude.{ℕ, ◌+◌, ◌≤◌, List, slice_set, map, Option, Some, None}
use Rattle.fp_setup.specs.SetupOfTables.{the_threads}
use Rattle.rv_exec.specs.declared.outcome.Event.{Event}
use Rattle.trace_print.specs.Text.{line_text}
use Rattle.core_model.specs.World.{Start, events}
use Rattle.selfrun.specs.declared.tally.Tally.{Tally}
use Rattle.selfrun.specs.Text.{fold_of, tally_at, tally_of}

-- a tally with the next event added
abbrev pub with_event : Tally → Event → Tally
with_event t e = record { events = t.events + 1; fold = fold_of t.fold (line_text e) }

-- the tallies of all threads with the event of a cycle, if there is one
abbrev pub tallies_with : List Tally → Option Event → List Tally
tallies_with tallies None = tallies
tallies_with tallies (Some e) =
    slice_set tallies e.thread (with_event (tally_at tallies e.thread) e)

-- each of them has at most a given number of events
abbrev pub AreFew : List Tally → ℕ → Type 0
AreFew tallies most = (k : ℕ) → (tally_at tallies k).events ≤ most

-- the tallies of the first n cycles of a world
abbrev pub tallies_of : Start → ℕ → List Tally
tallies_of s n = map (λ k. tally_of (events s k n)) the_threads
