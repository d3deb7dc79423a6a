-- The machine as a whole, cycle by cycle: each cycle is one turn, in which at most one thread does
-- one whole instruction.
use Rattle.std.specs.Prelude.{ℕ, zero, suc, ◌-◌, ◌==◌, nat_lt, Bool, true, false}
use Rattle.std.specs.Prelude.{not, ◌&&◌, if◌then◌else◌, List, [], ◌∷◌, ◌++◌}
use Rattle.std.specs.Prelude.{slice_index_or, slice_set, map, length, Option, Some, None}
use Rattle.std.specs.List.{list_all}
use Rattle.rv_decode.specs.CsrNumbers.{csr_slots, csr_modes, csr_dregions, csr_iregions}
use Rattle.rv_exec.specs.declared.outcome.Effect.{Effect}
use Rattle.rv_exec.specs.declared.outcome.Effect.TheVariants.{Store, Csr}
use Rattle.rv_exec.specs.declared.outcome.Event.{Event}
use Rattle.region_guard.specs.Regions.{may_fetch, may_load, may_store, is_data}
use Rattle.region_guard.specs.MemoryMap.{port_address}
use Rattle.slot_scheduler.specs.declared.picking.Pick.{Pick}
use Rattle.slot_scheduler.specs.declared.picking.Pick.TheVariants.{Issue, Bubble}
use Rattle.slot_scheduler.specs.declared.picking.Sched.{Sched}
use Rattle.slot_scheduler.specs.Picking.{pick}
use Rattle.timer_unit.specs.Time.{time}
use Rattle.core_model.specs.Thread.{Thread, Environment, Contents, Completion, fresh}
use Rattle.core_model.specs.Csr.{is_shared}
use Rattle.core_model.specs.Issue.{issue}
use Rattle.core_model.specs.Memory.{words_with_store}
use Rattle.core_model.specs.Solo.{contents_by}
use Rattle.fp_ports.specs.PluggedPorts.{absent_word}
use Rattle.core_model.specs.Delays.{cycles_to_w}

-- the configuration registers, 0x7C0 to 0x7C3
pub record Registers : Type 0 where
  pub slots : ℕ
  pub modes : ℕ
  pub dregions : ℕ
  pub iregions : ℕ

-- the start of a run; each list but those of words has an entry for each of the eight threads
pub record Start : Type 0 where
  pub period : ℕ  -- of a cycle, in nanoseconds
  pub size : ℕ  -- of each scratchpad, in bytes
  pub threads : List Thread
  pub confined : List Bool
  pub permit : List Bool  -- who may access the configuration registers
  pub i_words : List ℕ  -- of the instruction scratchpad
  pub d_words : List ℕ  -- of the data scratchpad
  pub registers : Registers
  pub shown : List (List ℕ)  -- the word of the thread's port in each cycle
  pub handed : List Bool  -- whether a port was handed in
  pub unplugs : List (Option ℕ)  -- the first cycle in which the port isn't there, if it is removed
  pub latches : List ℕ  -- the word in the port's latch

-- the turn of a cycle: nobody's, lost by a thread that wasn't ready, or one instruction of a
-- thread. The instruction has an effect unless it is a DU that waits
pub data Took : Type 0 where
  Idle : Took
  Lost : ℕ → Took
  Ran : (thread pc word : ℕ) → Option Effect → Took

-- the machine between two cycles
pub record World : Type 0 where
  pub threads : List Thread
  pub d_words : List ℕ
  pub registers : Registers
  pub latches : List ℕ
  pub last : ℕ  -- the round-robin pointer: the soft thread that got a soft or an unused slot last
  pub turns : List Took  -- of the cycles so far, the newest first

-- thread k
abbrev pub thread_of : World → ℕ → Thread
thread_of w k = slice_index_or w.threads k (fresh 0)

-- the inputs of picking
abbrev pub sched_by : Registers → List ℕ → Sched
sched_by r sleeps = record { slots = r.slots; modes = r.modes; sleep = sleeps }

-- the inputs of picking in a world
abbrev pub sched_of : World → Sched
sched_of w = sched_by w.registers (map (λ t. t.own.sleep) w.threads)

-- a configuration register, by its number
abbrev pub config_register : Registers → ℕ → ℕ
config_register r csr =
    if csr == csr_slots then r.slots
    else if csr == csr_modes then r.modes
    else if csr == csr_dregions then r.dregions
    else r.iregions

-- a value, if there is a permit
abbrev pub if_permitted : Bool → ℕ → Option ℕ
if_permitted allowed value = if allowed then Some value else None

-- the environment of thread k at a time, with these values of the registers
unfoldable pub environment : ℕ → ℕ → List Bool → List Bool → Registers → ℕ → Environment
environment now size confined permit r k =
    record {
      thread = k;
      now = now;
      fetch = λ pc. may_fetch k size (slice_index_or confined k true) r.iregions pc;
      load =
          λ address width.
          may_load k size (slice_index_or confined k true) r.iregions r.dregions address width;
      store = λ address width. may_store k size r.dregions address width;
      shared = λ csr. if_permitted (slice_index_or permit k false) (config_register r csr);
    }

-- the word of a thread's port in a cycle
abbrev pub port_word : Start → ℕ → ℕ → ℕ
port_word s c k = slice_index_or (slice_index_or s.shown k []) c absent_word

-- the environment of an issue of thread k in cycle c
abbrev pub environment_at : Start → ℕ → World → ℕ → Environment
environment_at s c w k = environment (time s.period c) s.size s.confined s.permit w.registers k

-- the words that an issue of thread k in cycle c reads
abbrev pub contents : Start → ℕ → World → ℕ → Contents
contents s c w k = contents_by s.size s.i_words w.d_words (port_word s c k)

-- an effect outside its thread: on the words of the data scratchpad,
abbrev pub words_after : ℕ → Option Effect → List ℕ → List ℕ
words_after size (Some (Store address width value)) words =
    if is_data size address then words_with_store size words address width value else words
words_after size _ words = words

-- on the configuration registers,
abbrev pub registers_after : Option Effect → Registers → Registers
registers_after (Some (Csr csr value rd old)) r =
    if csr == csr_slots then record r { slots = value }
    else if csr == csr_modes then record r { modes = value }
    else if csr == csr_dregions then record r { dregions = value }
    else if csr == csr_iregions then record r { iregions = value }
    else r
registers_after _ r = r

-- and on the latch of the thread's port, if the port is there
abbrev pub latches_with : Bool → ℕ → Option Effect → List ℕ → List ℕ
latches_with there k (Some (Store address width value)) latches =
    if address == port_address && there then slice_set latches k value else latches
latches_with there k _ latches = latches

-- whether a port that was handed in is still there in a cycle
abbrev pub is_plugged : Option ℕ → ℕ → Bool
is_plugged None c = true
is_plugged (Some unplug) c = nat_lt c unplug

-- whether thread k has a port in a cycle
abbrev pub has_port : Start → ℕ → ℕ → Bool
has_port s k c = slice_index_or s.handed k false && is_plugged (slice_index_or s.unplugs k None) c

-- the latches after an effect of thread k in cycle c
abbrev pub latches_after : Start → ℕ → ℕ → Option Effect → List ℕ → List ℕ
latches_after s c k effect latches = latches_with (has_port s k c) k effect latches

-- one whole instruction of thread k in cycle c
abbrev pub issue_of : Start → ℕ → World → ℕ → Completion
issue_of s c w k = issue (environment_at s c w k) (contents s c w k) c (thread_of w k)

-- the world after that instruction
abbrev pub after_issue : Start → ℕ → World → ℕ → ℕ → Completion → World
after_issue s c w last k d =
    record {
      threads = slice_set w.threads k d.thread;
      d_words = words_after s.size d.effect w.d_words;
      registers = registers_after d.effect w.registers;
      latches = latches_after s c k d.effect w.latches;
      last = last;
      turns = Ran k (thread_of w k).pc d.word d.effect ∷ w.turns;
    }

-- the world after a cycle without an issue
abbrev pub after_no_issue : World → ℕ → Took → World
after_no_issue w last took = record w { last = last; turns = took ∷ w.turns }

-- the turn of the picked thread: lost before its first ready cycle, else an issue
abbrev pub after_pick : Start → ℕ → World → ℕ → Pick → World
after_pick s c w last Bubble = after_no_issue w last Idle
after_pick s c w last (Issue k) =
    if nat_lt c (thread_of w k).ready then after_no_issue w last (Lost k)
    else after_issue s c w last k (issue_of s c w k)

-- the world after cycle c, from the world before it and the inputs of picking
unfoldable pub after_turn : Start → ℕ → World → Sched → World
after_turn s c w q = let p = pick q c (time s.period c) w.last in after_pick s c w p.last p.pick

-- the world before cycle 0
abbrev pub start_world : Start → World
start_world s = record {
  threads = s.threads;
  d_words = s.d_words;
  registers = s.registers;
  latches = s.latches;
  last = 7;
  turns = [];
}

-- the turn of the last cycle
abbrev pub newest : World → Took
newest w = slice_index_or w.turns 0 Idle

-- the worlds before the cycles c, c - 1 and c - 2; before cycle 0 the world is the start
pub record Recent : Type 0 where
  pub now : World
  pub before : World
  pub earlier : World

-- picking in cycle c uses the slots, modes and sleep moments from before cycle c - 2
unfoldable pub recent : Start → ℕ → Recent
recent s zero = record { now = start_world s; before = start_world s; earlier = start_world s }
recent s (suc c) =
    let r = recent s c in
    record { now = after_turn s c r.now (sched_of r.earlier); before = r.now; earlier = r.before }

-- the world before cycle c, after c cycles
unfoldable pub world : Start → ℕ → World
world s c = (recent s c).now

-- the event of a turn in cycle c, if the turn is thread i's and has an effect
abbrev pub event_of : ℕ → ℕ → Took → List Event
event_of i c (Ran k pc word (Some effect)) =
    if k == i
    then record { cycle = c; thread = k; pc = pc; word = word; effect = effect } ∷ []
    else []
event_of i c _ = []

-- the events of thread i, the oldest first, from the turns of the cycles so far
abbrev pub events_of : ℕ → List Took → List Event
events_of i [] = []
events_of i (took ∷ turns) = events_of i turns ++ event_of i (length turns) took

-- the events of thread i that have retired after n cycles
abbrev pub events : Start → ℕ → ℕ → List Event
events s i n = events_of i (world s (n - cycles_to_w)).turns

-- whether a turn leaves the configuration registers unwritten
abbrev pub leaves_registers : Took → Bool
leaves_registers (Ran k pc word (Some (Csr csr value rd old))) = not (is_shared csr)
leaves_registers _ = true

-- a run of n cycles is quiet if no issue in it, retired or in flight, writes a configuration
-- register, even with its current value
abbrev pub is_quiet : Start → ℕ → Bool
is_quiet s n = list_all leaves_registers (world s n).turns
