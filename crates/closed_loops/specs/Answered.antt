-- Plants at the ports of the machine's threads.
use Rattle.std.specs.Prelude.{◌≡◌, ℕ, zero, suc, ◌<◌, ◌==◌, if◌then◌else◌, List}
use Rattle.std.specs.Prelude.{[], ◌∷◌, ◌++◌, map, slice_index_or, slice_set}
use Rattle.std.specs.List.{range_with_len}
use Rattle.core_model.specs.World.{Start, events_of, port_word, world}
use Rattle.core_model.specs.Viewed.{view}
use Rattle.closed_loops.specs.Loop.{LoopView, Plant, PortStore, input_plant}
use Rattle.closed_loops.specs.Loop.{port_stores, without_port_words}

-- the stores that thread i issued at its port before cycle c
abbrev pub stores_before : Start → ℕ → ℕ → List PortStore
stores_before s i c = port_stores (events_of i (world s c).turns)

-- a plant responds to thread i for n cycles: in each cycle the thread's port shows the plant's
-- response to the thread's earlier stores
abbrev pub IsAnswered : Plant → Start → ℕ → ℕ → Type 0
IsAnswered plant s i n = (c : ℕ) → c < n → port_word s c i ≡ plant (stores_before s i c) c

-- the view of thread i, without its port's words
abbrev pub loop_view : Start → ℕ → LoopView
loop_view s i = without_port_words (view s i)

-- a start with other words at all ports
abbrev pub with_all_shown : Start → List (List ℕ) → Start
with_all_shown s shown = record s { shown = shown }

-- a start with other words at the port of thread i
abbrev pub with_shown : Start → ℕ → List ℕ → Start
with_shown s i words = with_all_shown s (slice_set s.shown i words)

-- the input words of thread i, as a plant
abbrev pub inputs_of : Start → ℕ → Plant
inputs_of s i = input_plant (slice_index_or s.shown i [])

-- plants at the ports: this one at the port of thread i, and the input words of the others
abbrev pub plant_at : ℕ → Plant → Start → ℕ → Plant
plant_at i plant s k = if k == i then plant else inputs_of s k

-- The words of the eight ports in the first c cycles, if each thread has its plant. A cycle's word
-- is the plant's response in the run with the words before it.
unfoldable pub closed_words : (ℕ → Plant) → Start → ℕ → List (List ℕ)
closed_words plants s zero = []
closed_words plants s (suc c) =
    let before = closed_words plants s c in
    let stores = λ (k : ℕ). stores_before (with_all_shown s before) k c in
    map (λ k. slice_index_or before k [] ++ plants k (stores k) c ∷ []) (range_with_len 0 8)

-- the start whose ports show the words of plants in a run of n cycles
abbrev pub closed_start : (ℕ → Plant) → Start → ℕ → Start
closed_start plants s n = with_all_shown s (closed_words plants s n)
