-- The same theorems for the traces of a setup's machine, with premises only on the issues that have
-- retired in n cycles.
use Rattle.std.specs.Prelude.{◌≡◌, ℕ, ◌-◌, true}
use Rattle.fp_setup.specs.Rules.{KeepsRules}
use Rattle.core_model.specs.Solo.{solo}
use Rattle.trace_print.specs.Text.{text}
use Rattle.core_model.specs.World.{is_quiet}
use Rattle.core_model.specs.Phases.{keeps_regions}
use Rattle.core_model.specs.Phased.{phased}
use Rattle.isolation.specs.TraceLaws.{IsConfinedHard, IsConfinedThrough, IsUnconfinedHard}
use Rattle.isolation.specs.TraceLaws.{Machine, phases_in, trace, view_of, wide_view_of}
use Rattle.isolation.specs.Wide.{wide_solo}
use Rattle.setup_model.specs.Start.{start}
use Rattle.core_model.specs.Delays.{cycles_to_w}

-- no issue that has retired after n cycles writes a configuration register
abbrev pub IsRetiredQuiet : Machine → ℕ → Type 0
IsRetiredQuiet m n = is_quiet (start m.setup m.image m.ports n) (n - cycles_to_w) ≡ true

-- none of them writes a region register
abbrev pub KeepsRetiredRegions : Machine → ℕ → Type 0
KeepsRetiredRegions m n = keeps_regions (start m.setup m.image m.ports n) (n - cycles_to_w) ≡ true

-- the trace of a confined hard thread is that of the definition of one thread over its view
abbrev pub RetiredTraceAlone : Type 0
RetiredTraceAlone =
    (m : Machine) (i n : ℕ) → KeepsRules m.setup → IsConfinedHard m i → IsRetiredQuiet m n →
    trace m i n ≡ text (solo (view_of m i n) n)

-- the trace of a thread that no setting makes soft and active, over its view and the settings
abbrev pub RetiredTraceByPhases : Type 0
RetiredTraceByPhases =
    (m : Machine) (i n : ℕ) → KeepsRules m.setup → IsConfinedThrough m i n →
    KeepsRetiredRegions m n → trace m i n ≡ text (phased (view_of m i n) (phases_in m n) n)

-- machines that agree in its view write equal traces of it
abbrev pub RetiredEqualTraces : Type 0
RetiredEqualTraces =
    (m k : Machine) (i n : ℕ) → KeepsRules m.setup → KeepsRules k.setup → IsConfinedHard m i →
    IsConfinedHard k i → IsRetiredQuiet m n → IsRetiredQuiet k n → view_of m i n ≡ view_of k i n →
    trace m i n ≡ trace k i n

-- the trace of a hard thread that isn't confined, over its wide view
abbrev pub RetiredTraceByWideView : Type 0
RetiredTraceByWideView =
    (m : Machine) (i n : ℕ) → KeepsRules m.setup → IsUnconfinedHard m i → IsRetiredQuiet m n →
    trace m i n ≡ text (wide_solo (wide_view_of m i n) n)
