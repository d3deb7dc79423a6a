-- One thread by itself over settings of the scheduling. It runs as in `Solo`, but at the positions
-- that the setting of each cycle gives it.
use Rattle.std.specs.Prelude.{ℕ, zero, suc, ◌-◌, ◌==◌, nat_le, Bool}
use Rattle.std.specs.Prelude.{if◌then◌else◌, List, [], ◌∷◌, map}
use Rattle.rv_exec.specs.declared.outcome.Event.{Event}
use Rattle.slot_table.specs.Frame.{frame}
use Rattle.slot_scheduler.specs.ModeWord.{mode_of}
use Rattle.core_model.specs.View.{Setting, View}
use Rattle.core_model.specs.Solo.{Past, solo_turn, port_at, add_turn, oldest_first}
use Rattle.core_model.specs.declared.phase.Phase.{Phase}
use Rattle.core_model.specs.Delays.{cycles_to_w}

-- whether each position of the frame is thread i's: those with its number, while its mode is hard
-- active, and else none
abbrev pub positions : ℕ → Phase → List Bool
positions i p = if mode_of p.modes i == 0 then map (λ slot. slot == i) (frame p.slots) else []

-- the setting with the thread's positions in a phase
abbrev pub setting_in : Setting → Phase → Setting
setting_in s p = record s { own = positions s.thread p }

-- of the settings in a list, the last one that begins in cycle c or before; p if there is none
abbrev pub latest : ℕ → Phase → List Phase → Phase
latest c p [] = p
latest c p (q ∷ qs) = latest c (if nat_le q.from c then q else p) qs

-- the setting of no thread: an empty frame
abbrev pub no_phase : Phase
no_phase = record { from = 0; slots = 0xFFFFFFFF; modes = 0 }

-- the phase of a cycle
abbrev pub phase_at : List Phase → ℕ → Phase
phase_at phases c = latest c no_phase phases

-- the thread's state and events after the cycles before c
unfoldable pub phased_at : View → List Phase → ℕ → Past
phased_at v phases zero =
    record { alone = record { thread = v.first; words = v.d_words }; events = [] }
phased_at v phases (suc c) =
    let p = phased_at v phases c in
    add_turn p (solo_turn (setting_in v.setting (phase_at phases c)) c (port_at v c) p.alone)

-- the thread's events that have retired after n cycles
abbrev pub phased : View → List Phase → ℕ → List Event
phased v phases n = oldest_first (phased_at v phases (n - cycles_to_w)).events
