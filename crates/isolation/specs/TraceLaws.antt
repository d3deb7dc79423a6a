-- Isolation of traces, for the machine of a setup that keeps the rules, an image, and ports. Each
-- accepted setup keeps the rules.
use Rattle.std.specs.Prelude.{◌≡◌, ℕ, true, false, List, map, slice_index_or, Option}
use Rattle.std.specs.List.{All, list_all}
use Rattle.fp_image.specs.declared.parts.Segment.{Segment}
use Rattle.fp_ports.specs.PluggedPorts.{Row}
use Rattle.fp_setup.specs.Rules.{KeepsRules}
use Rattle.fp_setup.specs.Settings.{Settings}
use Rattle.fp_setup.specs.declared.thread_list.ThreadSetup.{ThreadSetup}
use Rattle.slot_scheduler.specs.ModeWord.{mode_of}
use Rattle.core_model.specs.View.{View}
use Rattle.core_model.specs.Solo.{solo}
use Rattle.trace_print.specs.Text.{text}
use Rattle.core_model.specs.World.{events, is_quiet}
use Rattle.core_model.specs.Viewed.{view}
use Rattle.core_model.specs.declared.phase.Phase.{Phase}
use Rattle.core_model.specs.Phases.{phases, keeps_regions, is_never_soft}
use Rattle.core_model.specs.Phased.{phased}
use Rattle.isolation.specs.Wide.{WideView, wide_view, wide_solo}
use Rattle.setup_model.specs.Start.{start, thread_setup_of}

-- a machine: a setup, an image, and eight ports as they are handed in
pub record Machine : Type 0 where
  pub setup : Settings
  pub image : List Segment
  pub ports : List (Option Row)

-- the trace of thread i after n cycles
abbrev pub trace : Machine → ℕ → ℕ → List ℕ
trace m i n = text (events (start m.setup m.image m.ports n) i n)

-- no issue of n cycles writes a configuration register
abbrev pub IsQuiet : Machine → ℕ → Type 0
IsQuiet m n = is_quiet (start m.setup m.image m.ports n) n ≡ true

-- the view of thread i over n cycles
abbrev pub view_of : Machine → ℕ → ℕ → View
view_of m i n = view (start m.setup m.image m.ports n) i

-- the wider view of the machine's thread i over n cycles
abbrev pub wide_view_of : Machine → ℕ → ℕ → WideView
wide_view_of m i n = wide_view (start m.setup m.image m.ports n) i n

-- thread i is confined, and hard active at the start
pub record IsConfinedHard (m : Machine) (i : ℕ) : Type 0 where
  pub confined : (thread_setup_of m.setup i).confined ≡ true
  pub hard : mode_of m.setup.modes i ≡ 0

-- thread i is one of the setup's that isn't confined, and hard active at the start
pub record IsUnconfinedHard (m : Machine) (i : ℕ) : Type 0 where
  pub free : slice_index_or (map (λ (t : ThreadSetup). t.confined) m.setup.threads) i true ≡ false
  pub hard : mode_of m.setup.modes i ≡ 0

-- in a quiet run the trace of a confined hard thread is that of the definition of one thread over
-- its view
abbrev pub TraceAlone : Type 0
TraceAlone =
    (m : Machine) (i n : ℕ) → KeepsRules m.setup → IsConfinedHard m i → IsQuiet m n →
    trace m i n ≡ text (solo (view_of m i n) n)

-- the settings of the scheduling in n cycles
abbrev pub phases_in : Machine → ℕ → List Phase
phases_in m n = phases (start m.setup m.image m.ports n) n

-- thread i is confined, and no setting makes it soft active
pub record IsConfinedThrough (m : Machine) (i n : ℕ) : Type 0 where
  pub confined : (thread_setup_of m.setup i).confined ≡ true
  pub never : list_all (is_never_soft i) (phases_in m n) ≡ true

-- no issue of n cycles writes a region register
abbrev pub KeepsRegions : Machine → ℕ → Type 0
KeepsRegions m n = keeps_regions (start m.setup m.image m.ports n) n ≡ true

-- the trace of such a thread is that of the definition of one thread over its view and those
-- settings
abbrev pub TraceByPhases : Type 0
TraceByPhases =
    (m : Machine) (i n : ℕ) → KeepsRules m.setup → IsConfinedThrough m i n → KeepsRegions m n →
    trace m i n ≡ text (phased (view_of m i n) (phases_in m n) n)

-- machines that agree in its view write equal traces of it
abbrev pub EqualTraces : Type 0
EqualTraces =
    (m k : Machine) (i n : ℕ) → KeepsRules m.setup → KeepsRules k.setup → IsConfinedHard m i →
    IsConfinedHard k i → IsQuiet m n → IsQuiet k n → view_of m i n ≡ view_of k i n →
    trace m i n ≡ trace k i n

-- a setup without a permit has only quiet runs, for any image and ports
abbrev pub QuietSetup : Type 0
QuietSetup =
    (m : Machine) (n : ℕ) →
    All (λ (t : ThreadSetup). t.permit ≡ false) m.setup.threads → IsQuiet m n

-- in a quiet run the trace of a hard thread that isn't confined follows from its wide view
abbrev pub TraceByWideView : Type 0
TraceByWideView = (m : Machine) (i n : ℕ) → KeepsRules m.setup → IsUnconfinedHard m i → IsQuiet m n
    → trace m i n ≡ text (wide_solo (wide_view_of m i n) n)
