-- Theorems on a thread in loops with sampled plants.
use Rattle.std.specs.Prelude.{◌≡◌, ℕ, ◌≤◌, true, false, List, Option, slice_index_or}
use Rattle.std.specs.List.{list_all}
use Rattle.core_model.specs.World.{Start, events, is_quiet}
use Rattle.core_model.specs.Phases.{phases, keeps_regions, is_never_soft}
use Rattle.isolation.specs.Isolation.{StartsConfined, StartsConfinedHard}
use Rattle.closed_loops.specs.Loop.{Plant, phased_in_loop, solo_in_loop}
use Rattle.closed_loops.specs.Answered.{loop_view}
use Rattle.closed_loops.specs.Sampled.{plant_of}
use Rattle.loop_runs.specs.Plants.{Response, loop_start, response_at}

-- the plant of thread i
abbrev pub plant_at : List (Option Response) → ℕ → Start → ℕ → Plant
plant_at responses every s i = plant_of s every i (response_at responses i)

-- in a quiet run a confined hard thread has the same events as when it runs by itself in the loop
-- with its plant
abbrev pub SampledAlone : Type 0
SampledAlone = (responses : List (Option Response)) (every : ℕ) (s : Start) (n i c : ℕ)
    → StartsConfinedHard s i → c ≤ n → is_quiet (loop_start responses every s n) c ≡ true
    → events (loop_start responses every s n) i c
    ≡ solo_in_loop (loop_view s i) (plant_at responses every s i) c

-- a run is quiet if no thread has a permit
abbrev pub SampledUnpermitted : Type 0
SampledUnpermitted = (responses : List (Option Response)) (every : ℕ) (s : Start) (n i c : ℕ)
    → StartsConfinedHard s i → c ≤ n → ((k : ℕ) → slice_index_or s.permit k false ≡ false)
    → events (loop_start responses every s n) i c
    ≡ solo_in_loop (loop_view s i) (plant_at responses every s i) c

-- the same while slots and modes change
abbrev pub SampledPhased : Type 0
SampledPhased = (responses : List (Option Response)) (every : ℕ) (s : Start) (n i c : ℕ)
    → StartsConfined s i → c ≤ n → (let t = loop_start responses every s n in
    list_all (is_never_soft i) (phases t c) ≡ true → keeps_regions t c ≡ true
    → events t i c
    ≡ phased_in_loop (loop_view s i) (plant_at responses every s i) (phases t c) c)
