-- Isolation of traces in closed loops, for the machine of a setup that keeps the rules, an image,
-- ports, and sampled plants at the threads' ports. Each accepted setup keeps the rules. The
-- premises speak only of issues that have retired in n cycles.
use Rattle.std.specs.Prelude.{◌≡◌, ℕ, ◌-◌, true, false, List, Option}
use Rattle.std.specs.List.{All, list_all}
use Rattle.fp_setup.specs.Rules.{KeepsRules}
use Rattle.fp_setup.specs.declared.thread_list.ThreadSetup.{ThreadSetup}
use Rattle.trace_print.specs.Text.{text}
use Rattle.core_model.specs.Delays.{cycles_to_w}
use Rattle.core_model.specs.World.{Start, events, is_quiet}
use Rattle.core_model.specs.Phases.{phases, keeps_regions, is_never_soft}
use Rattle.core_model.specs.declared.phase.Phase.{Phase}
use Rattle.setup_model.specs.Start.{start, thread_setup_of}
use Rattle.isolation.specs.TraceLaws.{IsConfinedHard, Machine}
use Rattle.closed_loops.specs.Loop.{LoopView, Plant, phased_in_loop, solo_in_loop}
use Rattle.closed_loops.specs.Answered.{loop_view}
use Rattle.closed_loops.specs.Sampled.{plant_of, sampled_start}

-- the responses of the threads' plants: the word that a plant shows, by the samples that it has
-- taken. A thread without a plant has the inputs of the setup.
abbrev pub Responses : Type 0
Responses = ℕ → Option (List ℕ → ℕ)

-- the machine's run of n cycles in which each plant is sampled every so many cycles, and responds
-- to its thread
abbrev pub loop_run : Machine → Responses → (every n : ℕ) → Start
loop_run m responses every n = sampled_start responses every (start m.setup m.image m.ports n) n

-- the trace of thread i in it after n cycles
abbrev pub loop_trace : Machine → Responses → (every i n : ℕ) → List ℕ
loop_trace m responses every i n = text (events (loop_run m responses every n) i n)

-- the plant of thread i, or its inputs
abbrev pub plant_in : Machine → Responses → (every i n : ℕ) → Plant
plant_in m responses every i n =
    plant_of (start m.setup m.image m.ports n) every i (responses i)

-- the view of thread i without its port's words
abbrev pub loop_view_of : Machine → (i n : ℕ) → LoopView
loop_view_of m i n = loop_view (start m.setup m.image m.ports n) i

-- no issue that has retired after n cycles writes a configuration register
abbrev pub IsLoopQuiet : Machine → Responses → (every n : ℕ) → Type 0
IsLoopQuiet m responses every n = is_quiet (loop_run m responses every n) (n - cycles_to_w) ≡ true

-- the trace of a confined hard thread is that of the thread by itself in the loop with its plant
abbrev pub LoopTraceAlone : Type 0
LoopTraceAlone =
    (m : Machine) (responses : Responses) (every i n : ℕ) → KeepsRules m.setup →
    IsConfinedHard m i → IsLoopQuiet m responses every n → loop_trace m responses every i n
    ≡ text (solo_in_loop (loop_view_of m i n) (plant_in m responses every i n) n)

-- machines that agree in its view without the port's words, and in its plant, write equal traces
abbrev pub EqualLoopTraces : Type 0
EqualLoopTraces =
    (m k : Machine) (p q : Responses) (every other i n : ℕ) → KeepsRules m.setup →
    KeepsRules k.setup → IsConfinedHard m i → IsConfinedHard k i →
    IsLoopQuiet m p every n → IsLoopQuiet k q other n → loop_view_of m i n ≡ loop_view_of k i n →
    plant_in m p every i n ≡ plant_in k q other i n →
    loop_trace m p every i n ≡ loop_trace k q other i n

-- a setup without a permit has only such runs
abbrev pub QuietLoops : Type 0
QuietLoops =
    (m : Machine) (responses : Responses) (every n : ℕ) →
    All (λ (t : ThreadSetup). t.permit ≡ false) m.setup.threads → IsLoopQuiet m responses every n

-- the settings of the scheduling in n cycles
abbrev pub loop_phases : Machine → Responses → (every n : ℕ) → List Phase
loop_phases m responses every n = phases (loop_run m responses every n) n

-- thread i is confined, and no setting makes it soft and active
pub record IsConfinedThroughLoop (m : Machine) (responses : Responses) (every i n : ℕ) :
    Type 0 where
  pub confined : (thread_setup_of m.setup i).confined ≡ true
  pub never : list_all (is_never_soft i) (loop_phases m responses every n) ≡ true

-- no issue that has retired writes a region register
abbrev pub KeepsLoopRegions : Machine → Responses → (every n : ℕ) → Type 0
KeepsLoopRegions m responses every n =
    keeps_regions (loop_run m responses every n) (n - cycles_to_w) ≡ true

-- the trace of such a thread, over the settings
abbrev pub LoopTraceByPhases : Type 0
LoopTraceByPhases =
    (m : Machine) (responses : Responses) (every i n : ℕ) → KeepsRules m.setup →
    IsConfinedThroughLoop m responses every i n → KeepsLoopRegions m responses every n →
    loop_trace m responses every i n ≡ text (phased_in_loop (loop_view_of m i n)
    (plant_in m responses every i n) (loop_phases m responses every n) n)
