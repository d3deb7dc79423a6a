-- A plant that is sampled: at a fixed period of cycles it takes the latch of its port, and it shows
-- one word until the next sample.
use Rattle.std.specs.Prelude.{◌≡◌, ℕ, zero, suc, ◌+◌, ◌*◌, ◌-◌, ◌/◌, ◌<◌, ◌≤◌, nat_lt, true, List}
use Rattle.std.specs.Prelude.{[], ◌∷◌, ◌++◌, filter, length, slice_index_or, Option, Some, None}
use Rattle.core_model.specs.World.{Start, has_port, port_word, world}
use Rattle.core_model.specs.Delays.{cycles_to_m}
use Rattle.closed_loops.specs.Loop.{Plant, PortStore, plant_behind_port}
use Rattle.closed_loops.specs.Answered.{closed_start, inputs_of, stores_before}

-- the word of the last store, or the given word if there is none
abbrev pub last_word : ℕ → List PortStore → ℕ
last_word word [] = word
last_word word (store ∷ stores) = last_word store.word stores

-- the stores that have reached the port before cycle c: a store issued in cycle a does so in a + 3
abbrev pub arrived_stores : ℕ → List PortStore → List PortStore
arrived_stores c stores = filter (λ store. nat_lt (store.cycle + cycles_to_m) c) stores

-- the first k samples, one each `every` cycles: the latch at that time, which is a first word until
-- a store reaches it
abbrev pub samples : ℕ → ℕ → List PortStore → ℕ → List ℕ
samples every first stores zero = []
samples every first stores (suc k) =
    samples every first stores k ++ last_word first (arrived_stores (suc k * every) stores) ∷ []

-- the sampled plant whose word after some samples is the response to them
abbrev pub sampled : (List ℕ → ℕ) → ℕ → ℕ → Plant
sampled response every first stores c = response (samples every first stores (c / every))

-- the stores of the cycles in which thread i has a port
abbrev pub present_stores : Start → ℕ → List PortStore → List PortStore
present_stores s i stores = filter (λ store. has_port s i store.cycle) stores

-- the sampled plant at thread i's port: it receives stores while the thread has a port, and its
-- samples are the latch at the start until a store arrives
abbrev pub sampled_at : Start → ℕ → ℕ → (List ℕ → ℕ) → Plant
sampled_at s every i response =
    plant_behind_port (has_port s i) (sampled response every (slice_index_or s.latches i 0))

-- the plant of thread i, from the response of its sampled plant, or its input words if it has none
abbrev pub plant_of : Start → ℕ → ℕ → Option (List ℕ → ℕ) → Plant
plant_of s every i None = inputs_of s i
plant_of s every i (Some response) = sampled_at s every i response

-- the start of a run of n cycles in loops with sampled plants, from the response of each thread's
-- plant
abbrev pub sampled_start : (ℕ → Option (List ℕ → ℕ)) → ℕ → Start → ℕ → Start
sampled_start responses every s n = closed_start (λ k. plant_of s every k (responses k)) s n

-- the latch of thread i's port in a machine at cycle c: a store reaches it three cycles after its
-- issue
abbrev pub latch_word : Start → ℕ → ℕ → ℕ
latch_word s i c = slice_index_or (world s (c - cycles_to_m)).latches i 0

-- the first k samples of that latch, one each `every` cycles
abbrev pub latch_samples : Start → ℕ → ℕ → ℕ → List ℕ
latch_samples s i every zero = []
latch_samples s i every (suc k) = latch_samples s i every k ++ latch_word s i (suc k * every) ∷ []

-- the latch of thread i's port is the word of the last store that the thread issued there while the
-- port was present
abbrev pub LatchOfStores : Type 0
LatchOfStores = (s : Start) (i c : ℕ) → i < length s.latches
    → slice_index_or (world s c).latches i 0
    ≡ last_word (slice_index_or s.latches i 0) (present_stores s i (stores_before s i c))

-- the delay of a store: a sample in cycle c includes the stores issued in cycle c - 4 and before
abbrev pub StoreDelay : Type 0
StoreDelay = (s : Start) (i a c : ℕ) → c ≤ a + cycles_to_m
    → arrived_stores c (stores_before s i a) ≡ stores_before s i (c - cycles_to_m)

-- in loops with sampled plants a port that is present shows its plant's response to the samples of
-- its latch so far
abbrev pub SampledWords : Type 0
SampledWords = (responses : ℕ → Option (List ℕ → ℕ)) (every : ℕ) (s : Start) (n i c : ℕ)
    (response : List ℕ → ℕ) → i < 8 → i < length s.latches → c < n
    → responses i ≡ Some response → has_port s i c ≡ true
    → let t = sampled_start responses every s n in
    port_word t c i ≡ response (latch_samples t i every (c / every))
