-- When stage registers, units and ports refine a cycle of a world. The turn of cycle c is in F in
-- cycle c, then in D, E, M and W in the four cycles after it. So before cycle c the registers are
-- those of the world four cycles before, and memory and ports those of three cycles before. The
-- state that E changes is that of two cycles before. Before cycle 0 the world is the start, and no
-- thread has a turn.
use Rattle.std.specs.Prelude.{◌≡◌, ℕ, suc, ◌+◌, ◌-◌, ◌<◌, ◌≤◌, ◌==◌, nat_lt, nat_le, Bool}
use Rattle.std.specs.Prelude.{true, false, ◌&&◌, if◌then◌else◌, List, [], ◌∷◌, slice_index_or}
use Rattle.std.specs.Prelude.{map, length, Option, Some, None, IfSome, option_map, is_some}
use Rattle.rv_decode.specs.Table.{ins}
use Rattle.rv_exec.specs.declared.outcome.Event.{Event}
use Rattle.slot_scheduler.specs.declared.picking.Pick.{Pick}
use Rattle.slot_scheduler.specs.declared.picking.Pick.TheVariants as chosen
use Rattle.timer_unit.specs.Time.{time, is_due}
use Rattle.fp_ports.specs.PluggedPorts.{Row, row_at, word_seen}
use Rattle.core_model.specs.Thread.{Thread, Execution, fresh, reg_in}
use Rattle.core_model.specs.Outcomes.{plus}
use Rattle.core_model.specs.Issue.{execute_word, source_1, source_2}
use Rattle.core_model.specs.Memory.{code_at}
use Rattle.core_model.specs.World.{Start, World, Took, thread_of, world, environment_at, port_word}
use Rattle.core_model.specs.World.Took.{Idle, Lost, Ran}
use Rattle.pipe_model.specs.declared.stage_registers.Held.{Held}
use Rattle.pipe_model.specs.declared.stage_registers.Held.TheVariants.{Bubble, Flushed, Issue}
use Rattle.pipe_model.specs.declared.stage_registers.Fetched.{Fetched}
use Rattle.pipe_model.specs.declared.stage_registers.Decoded.{Decoded}
use Rattle.pipe_model.specs.declared.stage_registers.Executed.{Executed}
use Rattle.pipe_model.specs.declared.stage_registers.Stored.{Stored}
use Rattle.pipe_model.specs.declared.stage_registers.Written.{Written}
use Rattle.pipe_model.specs.Stages.{StageRegisters, Control, State, Ticked, event_at}
use Rattle.core_model.specs.Delays.{cycles_to_e, cycles_to_m, cycles_to_w}

-- the turn of cycle c - 1 - e
abbrev pub turn_at : Start → ℕ → ℕ → Took
turn_at s c e = slice_index_or (world s c).turns e Idle

-- the content of w for a turn, and of m
abbrev pub in_write : Took → Held Written
in_write Idle = Bubble
in_write (Lost k) = Flushed k
in_write (Ran k pc word effect) = Issue k (record { pc = pc; word = word })

abbrev pub in_memory : Took → Held Stored
in_memory Idle = Bubble
in_memory (Lost k) = Flushed k
in_memory (Ran k pc word effect) = Issue k (record { pc = pc; word = word; effect = effect })

-- e: the execution of the instruction of thread k in cycle n, in the world w before it, without a
-- late value
abbrev pub execution_in : Start → ℕ → World → ℕ → Execution
execution_in s n w k =
    execute_word (environment_at s n w k) (code_at s.size s.i_words (thread_of w k).pc)
    (thread_of w k)

-- with the values of the sources of its word
abbrev pub executed_in : Execution → Thread → Executed
executed_in d t =
    record {
      pc = t.pc;
      word = d.word;
      a = reg_in t.regs (source_1 (ins d.word));
      b = reg_in t.regs (source_2 (ins d.word));
      address = d.address;
      effect = d.effect;
    }

abbrev pub in_execute : Start → ℕ → World → Took → Held Executed
in_execute s n w Idle = Bubble
in_execute s n w (Lost k) = Flushed k
in_execute s n w (Ran k pc word effect) =
    Issue k (executed_in (execution_in s n w k) (thread_of w k))

-- d: the word at the thread's pc, with the values of its sources
abbrev pub decoded_in : Start → ℕ → Thread → Decoded
decoded_in s n t =
    let word = code_at s.size s.i_words t.pc in
    record {
      pc = t.pc;
      word = word;
      expired = is_due t.own.timer.armed (time s.period n);
      a = reg_in t.regs (source_1 (ins word));
      b = reg_in t.regs (source_2 (ins word));
    }

abbrev pub in_decode : Start → ℕ → World → Took → Held Decoded
in_decode s n w Idle = Bubble
in_decode s n w (Lost k) = Flushed k
in_decode s n w (Ran k pc word effect) = Issue k (decoded_in s n (thread_of w k))

-- whether a turn is an issue of the thread, and the thread that it picked
abbrev pub issues : ℕ → Took → Bool
issues k Idle = false
issues k (Lost j) = false
issues k (Ran j pc word effect) = j == k

abbrev pub pick_in : Took → Pick
pick_in Idle = chosen.Bubble
pick_in (Lost k) = chosen.Issue k
pick_in (Ran k pc word effect) = chosen.Issue k

-- the pc after one issue of the thread, if there is one
abbrev pub pc_after_issue : Bool → ℕ → ℕ
pc_after_issue there pc = if there then plus pc 4 else pc

-- f: the fetch made before the preceding instruction is executed reads the word that follows it.
-- `turn` is the turn of c - 2, w the world before it, and thread k was picked in c - 1
abbrev pub fetched_in : Start → World → Took → ℕ → Fetched
fetched_in s w turn k =
    let pc = pc_after_issue (issues k turn) (thread_of w k).pc in
    record { pc = pc; word = code_at s.size s.i_words pc }

-- f is already flushed if an instruction of c - 3 or before keeps the thread from being ready
abbrev pub in_fetch : Start → ℕ → World → Took → Pick → Held Fetched
in_fetch s c w turn chosen.Bubble = Bubble
in_fetch s c w turn (chosen.Issue k) =
    if nat_le c (thread_of w k).ready then Flushed k else Issue k (fetched_in s w turn k)

-- whether f holds a word that the thread fetched
abbrev pub fetches : ℕ → Held Fetched → Bool
fetches k Bubble = false
fetches k (Flushed j) = false
fetches k (Issue j x) = j == k

-- the pc that the thread fetches next: the word after those in d and f
abbrev pub next_of : World → Took → Held Fetched → ℕ → ℕ
next_of w turn f k =
    pc_after_issue (fetches k f) (pc_after_issue (issues k turn) (thread_of w k).pc)

-- the state that E reads and writes, from the world
abbrev pub control_in : World → Control
control_in w =
    record {
      registers = w.registers;
      timers = map (λ t. t.own.timer) w.threads;
      traps = map (λ t. t.own.trap) w.threads;
      sleeps = map (λ t. t.own.sleep) w.threads;
    }

-- the registers of each thread, from the world
abbrev pub bank_in : World → List (List ℕ)
bank_in w = map (λ t. t.regs) w.threads

-- the contents of the units before cycle c, with the ports
abbrev pub units_of : Start → ℕ → List (Option Row) → State
units_of s c ports =
    record {
      bank = bank_in (world s (c - cycles_to_w));
      i_words = s.i_words;
      d_words = (world s (c - cycles_to_m)).d_words;
      control = control_in (world s (c - cycles_to_e));
      last = (world s c).last;
      period = s.period;
      size = s.size;
      confined = s.confined;
      permit = s.permit;
      ports = ports;
    }

-- the contents of the stage registers before cycle c, with the pcs to fetch next
abbrev pub stage_registers_of : Start → ℕ → List ℕ → StageRegisters
stage_registers_of s c next =
    record {
      next = next;
      f = in_fetch s c (world s (c - cycles_to_e)) (turn_at s c 1) (pick_in (turn_at s c 0));
      d = in_decode s (c - cycles_to_e) (world s (c - cycles_to_e)) (turn_at s c 1);
      e = in_execute s (c - cycles_to_m) (world s (c - cycles_to_m)) (turn_at s c 2);
      m = in_memory (turn_at s c 3);
      w = in_write (turn_at s c 4);
    }

-- the pcs to fetch next
pub record Fronts (s : Start) (c : ℕ) (f : Held Fetched) (pcs : List ℕ) : Type 0 where
  pub count : length pcs ≡ 8
  pub next : (k : ℕ) → k < 8 →
      slice_index_or pcs k 0 ≡ next_of (world s (c - cycles_to_e)) (turn_at s c 1) f k

-- each port that is there has the latch of the world
abbrev pub HasLatches : World → List (Option Row) → Type 0
HasLatches w ports =
    (k : ℕ) → k < 8 → IfSome (row_at ports k) (λ row. row.latch ≡ slice_index_or w.latches k 0)

-- stage registers, units and ports refine cycle c of the world
pub record PipelineRefines (s : Start) (c : ℕ) (p : StageRegisters) (u : State) : Type 0 where
  pub stage_registers : p ≡ stage_registers_of s c p.next
  pub fronts : Fronts s c p.f p.next
  pub units : u ≡ units_of s c u.ports
  pub ports : HasLatches (world s (c - cycles_to_m)) u.ports

-- a start with eight threads, all ready, and eight latches
pub record Begins (s : Start) : Type 0 where
  pub eight : length s.threads ≡ 8
  pub ready : (k : ℕ) → (slice_index_or s.threads k (fresh 0)).ready ≡ 0
  pub latches : length s.latches ≡ 8

-- A port that was handed in is there up to cycle unplug + 2. The turn that accesses it in cycle c
-- was issued in c - 3.
abbrev pub stays_in : Option ℕ → ℕ → Bool
stays_in None c = true
stays_in (Some unplug) c = nat_lt c (unplug + cycles_to_m)

-- the ports in cycle c: which are there, and the words that the turn issued in c - 3 reads
pub record PortsRefine (s : Start) (c : ℕ) (ports : List (Option Row)) : Type 0 where
  pub there : (k : ℕ) → k < 8 → is_some (row_at ports k)
      ≡ (slice_index_or s.handed k false && stays_in (slice_index_or s.unplugs k None) c)
  pub words : (k : ℕ) → k < 8 → cycles_to_m ≤ c →
      word_seen (row_at ports k) (c - cycles_to_m) ≡ port_word s (c - cycles_to_m) k

-- the event that retires, from its cycle and turn
abbrev pub event_in : ℕ → Took → Option Event
event_in cycle Idle = None
event_in cycle (Lost k) = None
event_in cycle (Ran k pc word effect) = event_at cycle k pc word effect

-- the word that a port shows in each cycle, if it is there
abbrev pub port_words : Option Row → Option (ℕ → ℕ)
port_words row = option_map (λ r. r.words) row

-- the same ports are there, and show the same words
abbrev pub SamePorts : List (Option Row) → List (Option Row) → Type 0
SamePorts before after = (k : ℕ) → port_words (row_at after k) ≡ port_words (row_at before k)

-- the state after a cycle refines the next one. The event is that of the issue in W, and the ports
-- show the same words as before
pub record RefinesNext (s : Start) (c : ℕ) (before : List (Option Row)) (t : Ticked) : Type 0 where
  pub refines : PipelineRefines s (suc c) t.stage_registers t.state
  pub event : t.event ≡ event_in (c - cycles_to_w) (turn_at s c 3)
  pub ports : SamePorts before t.state.ports

-- the event, if it is one of the thread's
abbrev pub of_thread : ℕ → Option Event → List Event
of_thread i None = []
of_thread i (Some e) = if e.thread == i then e ∷ [] else []
