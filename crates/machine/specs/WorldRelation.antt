-- When a machine and its ports refine a cycle of a world.
use Rattle.std.specs.Prelude.{◌≡◌, ℕ, suc, ◌-◌, ◌<◌, ◌≤◌, false, ◌&&◌, if◌then◌else◌, List}
use Rattle.std.specs.Prelude.{[], ◌++◌, slice_index_or, map, replicate, Option, Some, None, ⊤}
use Rattle.std.specs.Io.KnownBytes.{Appends}
use Rattle.fp_io.specs.Content.{AppendsPrefix}
use Rattle.trace_print.specs.Text.{text}
use Rattle.rv_exec.specs.declared.outcome.Event.{Event}
use Rattle.fp_image.specs.declared.parts.Segment.{Segment}
use Rattle.fp_ports.specs.PluggedPorts.{Row, row_at, row_with_word}
use Rattle.fp_ports.specs.ShownWords.{shown}
use Rattle.fp_setup.specs.SetupOfTables.{the_threads}
use Rattle.fp_setup.specs.Settings.{Settings, size_of}
use Rattle.fp_setup.specs.declared.thread_list.ThreadSetup.{ThreadSetup}
use Rattle.timer_unit.specs.Time.{no_timer}
use Rattle.trap_unit.specs.Rows.{no_trap}
use Rattle.core_model.specs.World.{Start, world, events}
use Rattle.setup_model.specs.Start.{start, thread_setup_of, i_words_of, d_words_of}
use Rattle.pipe_model.specs.Stages.{StageRegisters, State}
use Rattle.pipe_model.specs.Relation.{port_words}
use Rattle.pipeline_core.specs.Abstraction.{abstract_stages, abstract_state}
use Rattle.machine.specs.FieldRelation.{FieldsRefine}
use Rattle.machine.specs.DumpedState.{is_port_left}
use Rattle.machine.specs.Observing.{retires}
use Rattle.machine.specs.declared.state.Machine.{Machine}
use Rattle.core_model.specs.Delays.{cycles_to_m}

-- the machine with these stage registers and the ports refine cycle c of the world; its lists of
-- shown words have n entries
abbrev pub RefinesWith : Start → ℕ → ℕ → StageRegisters → Machine → List (Option Row) → Type 0
RefinesWith s c n p m ports = FieldsRefine s c n p (abstract_state m.units ports) m.at m.unplugs

-- the same with the machine's own stage registers
abbrev pub Refines : Start → ℕ → ℕ → Machine → List (Option Row) → Type 0
Refines s c n m ports = RefinesWith s c n (abstract_stages m.pipe) m ports

-- the start of a run of n cycles with ports that were fed already
abbrev pub start_with_ports : Settings → List Segment → List (Option Row) → ℕ → Start
start_with_ports s image ports n = record (start s image ports n) {
  shown = map (λ i. shown (row_at ports i) [] (thread_setup_of s i).unplug n) the_threads;
}

-- a port that is left shows the words that it showed before
abbrev pub IsLeft : Option Row → Option Row → Type 0
IsLeft before None = Unit {0}
IsLeft before (Some row) = port_words before ≡ Some row.words

-- the same for the ports of all threads
abbrev pub AreLeft : List (Option Row) → List (Option Row) → Type 0
AreLeft before after = (k : ℕ) → k < 8 → IsLeft (row_at before k) (row_at after k)

-- The state after a cycle refines the next one, and the result is the event that retires. The
-- machine is taken with these stage registers.
pub record TicksWith (s : Start) (c n : ℕ) (before : List (Option Row)) (p : StageRegisters)
    (m : Machine) (ports : List (Option Row)) (event : Option Event) : Type 0 where
  pub refines : RefinesWith s (suc c) n p m ports
  pub event_is : event ≡ retires s c
  pub left : AreLeft before ports

-- the same with the machine's own stage registers
abbrev pub Ticks : Start → ℕ → ℕ → List (Option Row) → Machine → List (Option Row) →
    Option Event → Type 0
Ticks s c n before m ports event = TicksWith s c n before (abstract_stages m.pipe) m ports event

-- k cycles of a run of n have put the text of the thread's events so far. Machine and ports refine
-- cycle k. The machine is taken with these stage registers.
pub record HasRunWith (s : Start) (k n thread : ℕ) (first : List (Option Row)) (p : StageRegisters)
    (m : Machine) (ports : List (Option Row)) (before after : Option (List ℕ)) : Type 0 where
  pub put : Appends before after (text (events s thread k))
  pub refines : RefinesWith s k n p m ports
  pub left : AreLeft first ports

-- the same with the machine's own stage registers
abbrev pub HasRun : Start → ℕ → ℕ → ℕ → List (Option Row) → Machine → List (Option Row) →
    Option (List ℕ) → Option (List ℕ) → Type 0
HasRun s k n thread first m ports before after =
    HasRunWith s k n thread first (abstract_stages m.pipe) m ports before after

-- the bytes appended begin with these
abbrev pub AppendsBeyond : Option (List ℕ) → Option (List ℕ) → List ℕ → Type 0
AppendsBeyond None after bytes = ⊤
AppendsBeyond (Some xs) None bytes = ⊥
AppendsBeyond (Some xs) (Some ys) bytes = (rest : List ℕ) × (ys ≡ (xs ++ bytes) ++ rest)

-- Machine and ports of a stopped run refine the cycles done. The bytes put are a prefix of the text
-- of all these cycles, and begin with the text of all but the last.
pub record Stopped (s : Start) (n thread : ℕ) (first : List (Option Row)) (m : Machine)
    (ports : List (Option Row)) (before after : Option (List ℕ)) : Type 0 where
  pub put : AppendsPrefix before after (text (events s thread n))
  pub before_last : AppendsBeyond before after (text (events s thread (m.at - 1)))
  pub with_last : AppendsPrefix before after (text (events s thread m.at))
  pub within : m.at ≤ n
  pub refines : Refines s m.at n m ports
  pub left : AreLeft first ports

-- a thread's row after n cycles of a world: the port with the world's latch and its words
-- unchanged; None if none was handed in or it was removed
abbrev pub row_after : Start → ℕ → ℕ → Option Row → Option Row
row_after s n k row =
    if slice_index_or s.handed k false && is_port_left (slice_index_or s.unplugs k None) n
    then row_with_word row (slice_index_or (world s (n - cycles_to_m)).latches k 0)
    else None

-- the ports after n cycles of a world
abbrev pub PortsAfter : Start → ℕ → List (Option Row) → List (Option Row) → Type 0
PortsAfter s n before after = (k : ℕ) → k < 8 → row_at after k ≡ row_after s n k (row_at before k)

-- the units at the start of a setup and an image, with the ports
abbrev pub units_at_start : Settings → List Segment → List (Option Row) → State
units_at_start s image ports =
    record {
      bank = replicate 8 (replicate 31 0);
      i_words = i_words_of s image;
      d_words = d_words_of s image;
      control = record {
        registers = record {
          slots = s.slots;
          modes = s.modes;
          dregions = s.dregions;
          iregions = s.iregions;
        };
        timers = replicate 8 no_timer;
        traps = replicate 8 no_trap;
        sleeps = replicate 8 0;
      };
      last = 7;
      period = s.period;
      size = size_of s.version;
      confined = map (λ (t : ThreadSetup). t.confined) s.threads;
      permit = map (λ (t : ThreadSetup). t.permit) s.threads;
      ports = ports;
    }
