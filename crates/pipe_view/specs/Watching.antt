-- The observation of one cycle of the machine: its state at the cycle's start, the turns in the
-- stages, and the line of the picked turn's event.
use Rattle.std.specs.Prelude.{ℕ, ◌≡◌, ◌+◌, ◌-◌, ◌<◌, ◌%◌, ◌==◌, ◌||◌, nat_lt}
use Rattle.std.specs.Prelude.{Bool, true, false, List, [], ◌∷◌, map, slice_index_or}
use Rattle.std.specs.Prelude.{Option, Some, None, option_map, length, slice_range, codes}
use Rattle.std.specs.Str.{IsCharBoundary, trim_end}
use Rattle.fp_ports.specs.PluggedPorts.{Row, row_at, latch_seen}
use Rattle.machine.specs.FieldRelation.{port_read}
use Rattle.machine.specs.declared.state.Machine.{Machine}
use Rattle.machine.specs.WorldRelation.{Refines, Ticks}
use Rattle.pipe_model.specs.declared.stage_registers.Held.{Held}
use Rattle.pipe_model.specs.declared.stage_registers.Held.TheVariants.{Bubble, Flushed, Issue}
use Rattle.pipe_model.specs.declared.stage_registers.Stored.{Stored}
use Rattle.pipe_model.specs.Stages.{retired_event}
use Rattle.slot_scheduler.specs.ModeWord.{mode_of}
use Rattle.slot_table.specs.Frame.{turn}
use Rattle.timer_unit.specs.Time.{time, timer_of}
use Rattle.trace_print.specs.Text.{line_text}
use Rattle.core_model.specs.World.{Start}
use Rattle.pipe_view.specs.declared.cycle.ThreadState.{ThreadState}
use Rattle.pipe_view.specs.declared.cycle.Cycle.{Cycle}
use Rattle.pipe_view.specs.declared.cycle.CycleStart.{CycleStart}
use Rattle.pipe_view.specs.declared.watch.Watch.{Watch}
use Rattle.core_model.specs.Delays.{cycles_to_m, cycles_to_w}

-- whether a thread's mode is asleep at the start of a machine's next cycle, or its sleep moment is
-- in the future
abbrev pub is_asleep : Machine → ℕ → Bool
is_asleep m k =
    mode_of m.units.sched.modes k % 2 == 1
    || nat_lt (time m.units.clock m.at) (slice_index_or m.units.sched.sleep k 0)

-- the observed state of a thread: whether it is asleep, its armed moment, its port's latch, and the
-- word that an issue of the cycle reads at the port
abbrev pub thread_state : Machine → List (Option Row) → ℕ → ThreadState
thread_state m rows k =
    record {
      asleep = is_asleep m k;
      armed = (timer_of m.units.timers k).armed;
      latch = latch_seen (row_at rows k);
      input = port_read (slice_index_or m.unplugs k None) (row_at rows k) m.at;
    }

-- the observed state of the machine at the start of its next cycle
abbrev pub start_of : Machine → List (Option Row) → CycleStart
start_of m rows =
    record {
      cycle = m.at;
      time = time m.units.clock m.at;
      slot = turn m.units.sched.slots m.at;
      modes = m.units.sched.modes;
      threads = map (thread_state m rows) (0 ∷ 1 ∷ 2 ∷ 3 ∷ 4 ∷ 5 ∷ 6 ∷ 7 ∷ []);
    }

-- the thread of a turn
abbrev pub turn_thread : Held Stored → Option ℕ
turn_thread Bubble = None
turn_thread (Flushed k) = Some k
turn_thread (Issue k x) = Some k

-- whether a turn is one that was lost
abbrev pub is_flushed : Held Stored → Bool
is_flushed (Flushed k) = true
is_flushed _ = false

-- the turn that a cycle picked
abbrev pub picked_turn : Cycle → Held Stored
picked_turn cycle = slice_index_or cycle.turns 0 Bubble

-- the column of the effect in a trace line
abbrev pub effect_column : ℕ
effect_column = 29

-- the text of a turn's outcome, from its line
abbrev pub IsOutcome : Held Stored → Option (List ℕ) → List ℕ → Type 0
IsOutcome Bubble line text = text ≡ []
IsOutcome (Flushed k) line text = text ≡ codes "flushed"
IsOutcome (Issue k x) None text = text ≡ codes "held"
IsOutcome (Issue k x) (Some line) text =
    IsCharBoundary line effect_column →
    text ≡ trim_end (slice_range line effect_column (length line))

-- the line of the picked turn's event is its trace line; there is one exactly if the turn has an
-- event
abbrev pub HasLine : Cycle → Type 0
HasLine cycle =
    option_map (λ text. text.bytes) cycle.line
    ≡ option_map line_text (retired_event cycle.start.cycle (picked_turn cycle))

-- the watch after the next cycle, with this start, and with this turn out of M at its end
abbrev pub seen_after : Watch → CycleStart → Held Stored → Watch
seen_after w start turn =
    record {
      starts = Some start ∷ slice_index_or w.starts 0 None ∷ slice_index_or w.starts 1 None ∷ [];
      turns =
          turn ∷ slice_index_or w.turns 0 Bubble ∷ slice_index_or w.turns 1 Bubble
          ∷ slice_index_or w.turns 2 Bubble ∷ [];
    }

-- the start of the cycle whose turn comes out of M next, if it was seen
abbrev pub whole_next : Watch → Option CycleStart
whole_next w = slice_index_or w.starts 2 None

-- the cycle from one machine with its ports to the next is one of each world that the first one
-- refines
abbrev pub IsTick : Machine → List (Option Row) → Machine → List (Option Row) → Type 0
IsTick m ports next ports_next =
    (s : Start) (n : ℕ) → m.at < n + cycles_to_m → Refines s m.at n m ports →
    Ticks s m.at n ports next ports_next (retired_event (m.at - cycles_to_w) m.pipe.m)
