-- One thread in a closed loop: in each cycle its port shows the response of a plant to the thread's
-- own earlier stores at the port.
use Rattle.std.specs.Prelude.{ℕ, zero, suc, ◌-◌, ◌==◌, Bool, if◌then◌else◌}
use Rattle.std.specs.Prelude.{List, [], ◌∷◌, ◌++◌, filter, slice_index_or}
use Rattle.rv_exec.specs.declared.outcome.Effect.{Effect}
use Rattle.rv_exec.specs.declared.outcome.Effect.TheVariants.{Store}
use Rattle.rv_exec.specs.declared.outcome.Event.{Event}
use Rattle.region_guard.specs.MemoryMap.{port_address}
use Rattle.fp_ports.specs.PluggedPorts.{absent_word}
use Rattle.core_model.specs.Thread.{Thread}
use Rattle.core_model.specs.View.{Setting, View}
use Rattle.core_model.specs.Solo.{Past, add_turn, solo_turn, oldest_first}
use Rattle.core_model.specs.declared.phase.Phase.{Phase}
use Rattle.core_model.specs.Phased.{phase_at, setting_in}
use Rattle.core_model.specs.Delays.{cycles_to_w}

-- a store of a thread at its port
pub record PortStore : Type 0 where
  pub cycle : ℕ  -- in which the store issued
  pub word : ℕ

-- a plant: the word that the port shows in a cycle, as a function of the stores issued before it
-- (oldest first)
abbrev pub Plant : Type 0
Plant = List PortStore → ℕ → ℕ

-- a plant that ignores all stores: it shows fixed input words, and ones after the last of them
abbrev pub input_plant : List ℕ → Plant
input_plant words stores c = slice_index_or words c absent_word

-- a plant at a port that is present in some cycles only. It receives the stores of those cycles; in
-- all others the port reads as ones
abbrev pub plant_behind_port : (ℕ → Bool) → Plant → Plant
plant_behind_port is_present plant stores c =
    if is_present c then plant (filter (λ store. is_present store.cycle) stores) c else absent_word

-- the store at the port that an effect of cycle c is, if it is one
abbrev pub port_store : ℕ → Effect → List PortStore
port_store c (Store address width value) =
    if address == port_address then record { cycle = c; word = value } ∷ [] else []
port_store c _ = []

-- the stores at the port among the events of a thread
abbrev pub port_stores : List Event → List PortStore
port_stores [] = []
port_stores (e ∷ events) = port_store e.cycle e.effect ++ port_stores events

-- the view of a thread in a closed loop, without the port's words: with its plant, all that its
-- events depend on
pub record LoopView : Type 0 where
  pub setting : Setting
  pub first : Thread
  pub d_words : List ℕ

abbrev pub without_port_words : View → LoopView
without_port_words v = record { setting = v.setting; first = v.first; d_words = v.d_words }

-- the word that the plant shows in cycle c, after the past cycles
abbrev pub plant_word : Plant → Past → ℕ → ℕ
plant_word plant past c = plant (port_stores (oldest_first past.events)) c

-- the cycles before c: each is a turn of the thread, whose port shows the plant's word
unfoldable pub loop_at : LoopView → Plant → ℕ → Past
loop_at v plant zero =
    record { alone = record { thread = v.first; words = v.d_words }; events = [] }
loop_at v plant (suc c) =
    let past = loop_at v plant c in
    add_turn past (solo_turn v.setting c (plant_word plant past c) past.alone)

-- the thread's events that have retired after n cycles
abbrev pub solo_in_loop : LoopView → Plant → ℕ → List Event
solo_in_loop v plant n = oldest_first (loop_at v plant (n - cycles_to_w)).events

-- the same over settings of the scheduling
unfoldable pub phased_loop_at : LoopView → Plant → List Phase → ℕ → Past
phased_loop_at v plant phases zero =
    record { alone = record { thread = v.first; words = v.d_words }; events = [] }
phased_loop_at v plant phases (suc c) =
    let past = phased_loop_at v plant phases c in
    let setting = setting_in v.setting (phase_at phases c) in
    add_turn past (solo_turn setting c (plant_word plant past c) past.alone)

abbrev pub phased_in_loop : LoopView → Plant → List Phase → ℕ → List Event
phased_in_loop v plant phases n =
    oldest_first (phased_loop_at v plant phases (n - cycles_to_w)).events
