-- The settings of the scheduling in a run: the slots and modes that picking uses, and from which
-- cycle.
use Rattle.std.specs.Prelude.{ℕ, ◌+◌, ◌-◌, ◌==◌, Bool, true, not, ◌||◌}
use Rattle.std.specs.Prelude.{if◌then◌else◌, List, [], ◌∷◌, ◌++◌, length, Some}
use Rattle.std.specs.List.{list_all}
use Rattle.rv_decode.specs.CsrNumbers.{csr_slots, csr_modes, csr_dregions, csr_iregions}
use Rattle.rv_exec.specs.declared.outcome.Effect.{Effect}
use Rattle.rv_exec.specs.declared.outcome.Effect.TheVariants.{Csr}
use Rattle.slot_scheduler.specs.ModeWord.{mode_of}
use Rattle.core_model.specs.World.{Start, Took, world}
use Rattle.core_model.specs.World.Took.{Ran}
use Rattle.core_model.specs.declared.phase.Phase.{Phase}
use Rattle.core_model.specs.Delays.{cycles_to_w, cycles_to_pick}

-- the setting that an effect of cycle c begins, if it begins one; p is the last setting before it.
-- Picking uses a write of the slots or modes from the third cycle after its issue
abbrev pub begun_by : ℕ → Effect → Phase → List Phase
begun_by c (Csr csr value rd old) p =
    if csr == csr_slots
    then record { from = c + cycles_to_pick; slots = value; modes = p.modes } ∷ []
    else if csr == csr_modes
    then record { from = c + cycles_to_pick; slots = p.slots; modes = value } ∷ []
    else []
begun_by c _ p = []

-- the setting that the turn of cycle c begins, if it begins one
abbrev pub phase_after : ℕ → Took → Phase → List Phase
phase_after c (Ran k pc word (Some effect)) p = begun_by c effect p
phase_after c _ p = []

-- the last phase of a list, or p if the list is empty
abbrev pub last_phase : Phase → List Phase → Phase
last_phase p [] = p
last_phase p (q ∷ qs) = last_phase q qs

-- the settings of the turns so far; the turns are newest first
abbrev pub phases_of : Phase → List Took → List Phase
phases_of first [] = first ∷ []
phases_of first (took ∷ turns) =
    let ps = phases_of first turns in ps ++ phase_after (length turns) took (last_phase first ps)

-- the phase at the start
abbrev pub first_phase : Start → Phase
first_phase s = record { from = 0; slots = s.registers.slots; modes = s.registers.modes }

-- the settings of a run of n cycles, from the writes that have retired
abbrev pub phases : Start → ℕ → List Phase
phases s n = phases_of (first_phase s) (world s (n - cycles_to_w)).turns

-- whether a turn leaves the region registers unwritten
abbrev pub leaves_regions : Took → Bool
leaves_regions (Ran k pc word (Some (Csr csr value rd old))) =
    not (csr == csr_dregions || csr == csr_iregions)
leaves_regions _ = true

-- no issue of n cycles, retired or in flight, writes a region register
abbrev pub keeps_regions : Start → ℕ → Bool
keeps_regions s n = list_all leaves_regions (world s n).turns

-- whether a turn leaves slots and modes unwritten
abbrev pub leaves_scheduling : Took → Bool
leaves_scheduling (Ran k pc word (Some (Csr csr value rd old))) =
    not (csr == csr_slots || csr == csr_modes)
leaves_scheduling _ = true

-- no issue of n cycles, retired or in flight, writes slots or modes
abbrev pub keeps_scheduling : Start → ℕ → Bool
keeps_scheduling s n = list_all leaves_scheduling (world s n).turns

-- in a setting, thread i isn't soft active: it takes only its own slots
abbrev pub is_never_soft : ℕ → Phase → Bool
is_never_soft i p = not (mode_of p.modes i == 2)
