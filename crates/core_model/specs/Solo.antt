-- One thread by itself, computed from its view. No other thread, no pick and no pipeline stage is
-- involved.
use Rattle.std.specs.Prelude.{ℕ, zero, suc, ◌-◌, ◌%◌, nat_le, Bool, false, ◌&&◌, if◌then◌else◌}
use Rattle.std.specs.Prelude.{List, [], ◌∷◌, ◌++◌, slice_index_or, length, Option, Some, None}
use Rattle.rv_exec.specs.declared.outcome.Effect.{Effect}
use Rattle.rv_exec.specs.declared.outcome.Effect.TheVariants.{Store}
use Rattle.rv_exec.specs.declared.outcome.Event.{Event}
use Rattle.region_guard.specs.Regions.{RegionKind, is_mine, is_data}
use Rattle.timer_unit.specs.Time.{time}
use Rattle.core_model.specs.Thread.{Thread, Contents, Completion}
use Rattle.core_model.specs.Issue.{issue}
use Rattle.core_model.specs.Memory.{code_at, data_at, words_with_store}
use Rattle.core_model.specs.View.{Setting, View, kind_at, solo_environment}
use Rattle.fp_ports.specs.PluggedPorts.{absent_word}
use Rattle.core_model.specs.Delays.{cycles_to_w}

-- the thread, and the words of the data scratchpad as it sees them
pub record Alone : Type 0 where
  pub thread : Thread
  pub words : List ℕ

-- the state after a cycle, and the cycle's event if it has one
pub record SoloTurn : Type 0 where
  pub alone : Alone
  pub event : Option Event

-- the cycles so far, with their events, the newest first
pub record Past : Type 0 where
  pub alone : Alone
  pub events : List (Option Event)

-- the words that an instruction reads, with the word of the port
abbrev pub contents_by : ℕ → List ℕ → List ℕ → ℕ → Contents
contents_by size i_words d_words port =
    record { code = code_at size i_words; at = data_at size i_words d_words port }

-- the words that a load and a fetch read, from the thread's own words and port
abbrev pub contents_alone : Setting → ℕ → List ℕ → Contents
contents_alone s port words = contents_by s.size s.i_words words port

-- a store into one of its own regions changes its words; every other store is only an event
abbrev pub own_by : ℕ → List RegionKind → Option Effect → List ℕ → List ℕ
own_by size d_kinds (Some (Store address width value)) words =
    if is_data size address && is_mine (kind_at size d_kinds address)
    then words_with_store size words address width value
    else words
own_by size d_kinds _ words = words

-- the thread's words after an effect
abbrev pub own_after : Setting → Option Effect → List ℕ → List ℕ
own_after s effect words = own_by s.size s.d_kinds effect words

-- the event of an issue in cycle c at a pc, if it has an effect
abbrev pub own_event : Setting → ℕ → ℕ → ℕ → Option Effect → Option Event
own_event s c pc word None = None
own_event s c pc word (Some effect) =
    Some (record { cycle = c; thread = s.thread; pc = pc; word = word; effect = effect })

-- whether the frame's position in cycle c is the thread's
abbrev pub has_position : List Bool → ℕ → Bool
has_position own c = slice_index_or own (c % length own) false

-- whether the thread issues in cycle c: the position is its own, it is ready, and it is awake
unfoldable pub may_go : Setting → ℕ → Thread → Bool
may_go s c t = has_position s.own c && nat_le t.ready c && nat_le t.own.sleep (time s.period c)

-- an issue: the thread and its words after it, and the event
abbrev pub solo_issue : Setting → ℕ → Alone → Completion → SoloTurn
solo_issue s c t d =
    record {
      alone = record { thread = d.thread; words = own_after s d.effect t.words };
      event = own_event s c t.thread.pc d.word d.effect;
    }

-- one cycle, with the word of the port in it
unfoldable pub solo_turn : Setting → ℕ → ℕ → Alone → SoloTurn
solo_turn s c port t =
    if may_go s c t.thread
    then solo_issue s c t (issue (solo_environment s c) (contents_alone s port t.words) c t.thread)
    else record { alone = t; event = None }

-- the word of the thread's port in a cycle
abbrev pub port_at : View → ℕ → ℕ
port_at v c = slice_index_or v.shown c absent_word

-- the past, extended by a turn
abbrev pub add_turn : Past → SoloTurn → Past
add_turn p d = record { alone = d.alone; events = d.event ∷ p.events }

-- the cycles before c
unfoldable pub solo_at : View → ℕ → Past
solo_at v zero = record { alone = record { thread = v.first; words = v.d_words }; events = [] }
solo_at v (suc c) = let p = solo_at v c in add_turn p (solo_turn v.setting c (port_at v c) p.alone)

-- only the events, the oldest first
abbrev pub oldest_first : List (Option Event) → List Event
oldest_first [] = []
oldest_first (None ∷ events) = oldest_first events
oldest_first (Some e ∷ events) = oldest_first events ++ e ∷ []

-- the thread's events that have retired after n cycles
abbrev pub solo : View → ℕ → List Event
solo v n = oldest_first (solo_at v (n - cycles_to_w)).events
