-- Simpler premises of the theorems on visits. Those theorems need the words of the code, and that
-- picking uses the same slots and a hard active mode in each cycle of the visit. The laws here give
-- both: by the start of a run that writes no slots or modes, by the settings that `phases` writes,
-- and by words that are equal in the whole section.
use Rattle.std.specs.Prelude.{◌≡◌, ℕ, ◌+◌, ◌-◌, ◌<◌, ◌≤◌, true, List, ◌∷◌, ◌++◌}
use Rattle.fp_image.specs.declared.parts.Segment.{Segment}
use Rattle.fp_setup.specs.Settings.{Settings}
use Rattle.slot_scheduler.specs.ModeWord.{mode_of}
use Rattle.core_model.specs.Delays.{cycles_to_e, cycles_to_w}
use Rattle.core_model.specs.Phased.{phase_at}
use Rattle.core_model.specs.Phases.{keeps_scheduling}
use Rattle.core_model.specs.World.{Start, is_quiet, world}
use Rattle.region_tree.specs.Tree.{IsTree, Tree}
use Rattle.region_tree.specs.declared.section.Section.{Section}
use Rattle.call_bounds.specs.CallRefusals.{IsListing}
use Rattle.call_bounds.specs.Calls.{Calls}
use Rattle.isolation.specs.TraceLaws.{Machine, phases_in}
use Rattle.visit_bounds.specs.CallVisitBound.{HostsCalls}
use Rattle.visit_bounds.specs.CallsInSettings.{HasWordsOfFunctions}
use Rattle.visit_bounds.specs.InSettings.{HasWords, IsSet}
use Rattle.visit_bounds.specs.SetupCallVisitBound.{IsAlikeInFunctions}
use Rattle.visit_bounds.specs.SetupInSettings.{HasSameWords, HasSameWordsOfFunctions, IsHardPhase}
use Rattle.visit_bounds.specs.SetupInSettings.{IsSetIn, KeepsScheduling, StartsHard}
use Rattle.visit_bounds.specs.SetupVisitBound.{IsAlike, tree_in}
use Rattle.visit_bounds.specs.VisitBound.{HostsSection}
use Rattle.visit_bounds.specs.Visits.{Issued, issues_of}

-- a run that writes no configuration register writes no slots or modes
abbrev pub QuietKeepsScheduling : Type 0
QuietKeepsScheduling = (s : Start) (n : ℕ) → is_quiet s n ≡ true → keeps_scheduling s n ≡ true

-- While no issue writes slots or modes, picking uses those of the start.
abbrev pub StartIsSet : Type 0
StartIsSet =
    (s : Start) (slots thread n : ℕ) → s.registers.slots ≡ slots →
    mode_of s.registers.modes thread ≡ 0 → keeps_scheduling s n ≡ true →
    (c : ℕ) → c < n → IsSet s slots thread c

-- the same for the machine of a setup
abbrev pub SetupIsSet : Type 0
SetupIsSet =
    (m : Machine) (slots i n : ℕ) → StartsHard m i slots → KeepsScheduling m n →
    (c : ℕ) → c < n → IsSetIn m i slots n c

-- Picking uses the settings that `phases` writes for n cycles, up to two cycles before the last.
abbrev pub PhaseIsSet : Type 0
PhaseIsSet =
    (m : Machine) (slots i n c : ℕ) → c ≤ n - cycles_to_w + cycles_to_e →
    IsHardPhase slots i (phase_at (phases_in m n) c) → IsSetIn m i slots n c

-- the issues of n cycles are in these cycles
abbrev pub IssuesAreEarlier : Type 0
IssuesAreEarlier =
    (s : Start) (thread n : ℕ) (later : List Issued) (last : Issued) (rest : List Issued) →
    issues_of thread (world s n).turns ≡ later ++ (last ∷ rest) → last.cycle < n

-- words that are equal in a section are equal where the section can reach them
abbrev pub HostHasWords : Type 0
HostHasWords =
    (t : Tree) (slots thread : ℕ) (s : Start) → IsTree t → HostsSection s t slots thread →
    HasWords s t

abbrev pub HostHasWordsOfFunctions : Type 0
HostHasWordsOfFunctions =
    (s : Start) (x : Calls) (slots thread : ℕ) → IsListing x → HostsCalls s x slots thread →
    HasWordsOfFunctions s x

-- the same for the images of setups
abbrev pub AlikeHasSameWords : Type 0
AlikeHasSameWords =
    (setup : Settings) (image : List Segment) (s : Section) (m : Machine) (i slots : ℕ) →
    IsTree (tree_in setup image s) → IsAlike m i slots image s →
    HasSameWords m (tree_in setup image s) image

abbrev pub AlikeHasSameWordsOfFunctions : Type 0
AlikeHasSameWordsOfFunctions =
    (x : Calls) (m : Machine) (i slots : ℕ) → IsListing x → IsAlikeInFunctions m i slots x →
    HasSameWordsOfFunctions m x
