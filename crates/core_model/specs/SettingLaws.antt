-- Theorems on the settings of a run, and on a thread's positions in them.
use Rattle.std.specs.Prelude.{◌≡◌, ℕ, ◌+◌, ◌-◌, ◌<◌, ◌≤◌, ◌==◌, Bool, false, ◌&&◌}
use Rattle.slot_table.specs.Frame.{turn}
use Rattle.slot_table.specs.declared.frame.Turn.{Turn}
use Rattle.slot_table.specs.declared.frame.Turn.TheVariants.{Thread, Soft, Nobody}
use Rattle.slot_scheduler.specs.ModeWord.{mode_of}
use Rattle.core_model.specs.Solo.{has_position}
use Rattle.core_model.specs.World.{Start, Registers, world}
use Rattle.core_model.specs.declared.phase.Phase.{Phase}
use Rattle.core_model.specs.Phases.{phases}
use Rattle.core_model.specs.Phased.{phase_at, positions}
use Rattle.core_model.specs.Delays.{cycles_to_e, cycles_to_w}

-- a setting has the slots and the modes of the registers
pub record Matches (p : Phase) (r : Registers) : Type 0 where
  pub slots : p.slots ≡ r.slots
  pub modes : p.modes ≡ r.modes

-- Picking in a cycle uses the setting of that cycle: the content of the registers two cycles
-- before. So no retired issue sees an unretired write.
abbrev pub SettingsOfPicks : Type 0
SettingsOfPicks =
    (s : Start) (n c : ℕ) → c ≤ n - cycles_to_w + cycles_to_e →
    Matches (phase_at (phases s n) c) (world s (c - cycles_to_e)).registers

-- The settings of n cycles decide picking in cycle c. Picking uses the last of them that begins in
-- c or before. No write that retires later changes which one that is.
pub record IsSettled (s : Start) (n c : ℕ) : Type 0 where
  pub used : Matches (phase_at (phases s n) c) (world s (c - cycles_to_e)).registers
  pub later : (m : ℕ) → phase_at (phases s (n + m)) c ≡ phase_at (phases s n) c

-- In the cycle of each retired issue, and in each cycle up to n - 2, picking depends only on
-- retired writes of slots and modes.
abbrev pub UnretiredUnseen : Type 0
UnretiredUnseen = (s : Start) (n c : ℕ) → c ≤ n - cycles_to_w + cycles_to_e → IsSettled s n c

-- whether a turn of the frame is thread i's
abbrev pub is_turn_of : Turn → ℕ → Bool
is_turn_of (Thread k) i = k == i
is_turn_of Soft i = false
is_turn_of Nobody i = false

-- a thread has a cycle exactly if the slot of that cycle is its own and its mode is hard active
abbrev pub OwnPositions : Type 0
OwnPositions =
    (i c : ℕ) (p : Phase) → i < 8 →
    has_position (positions i p) c ≡ (is_turn_of (turn p.slots c) i && mode_of p.modes i == 0)
