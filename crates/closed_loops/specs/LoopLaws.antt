-- Theorems on threads in closed loops: the rest of the machine can't change the events of such a
-- thread.
use Rattle.std.specs.Prelude.{◌≡◌, ℕ, ◌<◌, true, false, List, slice_index_or}
use Rattle.std.specs.List.{list_all}
use Rattle.core_model.specs.View.{View}
use Rattle.core_model.specs.Solo.{solo}
use Rattle.core_model.specs.World.{Start, events, is_quiet, port_word, world}
use Rattle.core_model.specs.Phases.{phases, keeps_regions, is_never_soft}
use Rattle.core_model.specs.Phased.{phased}
use Rattle.core_model.specs.declared.phase.Phase.{Phase}
use Rattle.isolation.specs.Isolation.{StartsConfined, StartsConfinedHard}
use Rattle.closed_loops.specs.Loop.{Plant, input_plant, phased_in_loop}
use Rattle.closed_loops.specs.Loop.{solo_in_loop, without_port_words}
use Rattle.closed_loops.specs.Answered.{IsAnswered, closed_start, inputs_of, loop_view}
use Rattle.closed_loops.specs.Answered.{with_all_shown}

-- A confined hard thread with a responding plant has in a quiet run the same events as by itself in
-- the loop with the plant. The other threads may run any code.
abbrev pub LoopIsolation : Type 0
LoopIsolation = (plant : Plant) (s : Start) (i n : ℕ) → StartsConfinedHard s i → is_quiet s n ≡ true
    → IsAnswered plant s i n → events s i n ≡ solo_in_loop (loop_view s i) plant n

-- Let such a thread have the same plant in two machines, and the same view without its port's
-- words. In quiet runs both machines give it equal events.
abbrev pub EqualLoops : Type 0
EqualLoops =
    (plant : Plant) (s t : Start) (i n : ℕ) → StartsConfinedHard s i → StartsConfinedHard t i →
    is_quiet s n ≡ true → is_quiet t n ≡ true → loop_view s i ≡ loop_view t i
    → IsAnswered plant s i n → IsAnswered plant t i n → events s i n ≡ events t i n

-- as `LoopIsolation`, while slots and modes change: no region register is written, and no setting
-- makes the thread soft active
abbrev pub PhasedLoops : Type 0
PhasedLoops = (plant : Plant) (s : Start) (i n : ℕ) → StartsConfined s i
    → list_all (is_never_soft i) (phases s n) ≡ true → keeps_regions s n ≡ true
    → IsAnswered plant s i n → events s i n ≡ phased_in_loop (loop_view s i) plant (phases s n) n

-- for all plants there is a run in which each plant responds to its thread
abbrev pub LoopsExist : Type 0
LoopsExist = (plants : ℕ → Plant) (s : Start) (i n : ℕ) → i < 8
    → IsAnswered (plants i) (closed_start plants s n) i n

-- If no thread has a permit, that run is quiet. Each confined hard thread runs as if it were by
-- itself in the loop with its plant.
abbrev pub LoopsWithoutPermits : Type 0
LoopsWithoutPermits = (plants : ℕ → Plant) (s : Start) (i n : ℕ) → StartsConfinedHard s i
    → ((k : ℕ) → slice_index_or s.permit k false ≡ false)
    → events (closed_start plants s n) i n ≡ solo_in_loop (loop_view s i) (plants i) n

-- fixed input words are a plant that ignores all stores: it responds to its thread in each run
abbrev pub InputsAnswer : Type 0
InputsAnswer = (s : Start) (i n : ℕ) → IsAnswered (inputs_of s i) s i n

-- by itself, a thread has the same events in the loop with this plant as with these words
abbrev pub InputsAreLoops : Type 0
InputsAreLoops = (v : View) (n : ℕ)
    → solo_in_loop (without_port_words v) (input_plant v.shown) n ≡ solo v n

-- the same over settings of the scheduling
abbrev pub PhasedInputsAreLoops : Type 0
PhasedInputsAreLoops = (v : View) (ps : List Phase) (n : ℕ)
    → phased_in_loop (without_port_words v) (input_plant v.shown) ps n ≡ phased v ps n

-- of the port words, only those of earlier cycles have an effect on the world before a cycle
abbrev pub PastWords : Type 0
PastWords = (s : Start) (shown : List (List ℕ)) (c : ℕ)
    → ((at k : ℕ) → at < c → port_word (with_all_shown s shown) at k ≡ port_word s at k)
    → world (with_all_shown s shown) c ≡ world s c
