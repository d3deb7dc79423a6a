-- The plants of the eight threads, as their responses. A response is the plant's word after some
-- steps, as a function of the words that the steps take.
use Rattle.std.specs.Prelude.{◌≡◌, ◌≢◌, ℕ, List, [], ◌∷◌, ◌++◌, map}
use Rattle.std.specs.Prelude.{Option, Some, None, slice_index_or, ⊤}
use Rattle.core_model.specs.World.{Start}
use Rattle.closed_loops.specs.Sampled.{sampled_start}

abbrev pub Response : Type 0
Response = List ℕ → ℕ

-- the response of a plant, or none. B is the type of the plants, which have these responses
abbrev pub response_of : {B : Type 0} → (B → Response) → Option B → Option Response
response_of response (Some plant) = Some (response plant)
response_of response None = None

-- the responses of the plants
abbrev pub responses_of : {B : Type 0} → (B → Response) → List (Option B) → List (Option Response)
responses_of response plants = map (response_of response) plants

-- the response of a thread's plant
abbrev pub response_at : List (Option Response) → ℕ → Option Response
response_at responses thread = slice_index_or responses thread None

-- a response is another one after some words
abbrev pub Continues : Option Response → Option Response → List ℕ → Type 0
Continues None None words = ⊤
Continues (Some first) (Some now) words = (more : List ℕ) → now more ≡ first (words ++ more)
Continues None (Some now) words = ⊥
Continues (Some first) None words = ⊥

-- a plant's word, if there is a plant
abbrev pub IsWord : Option Response → List ℕ → Option ℕ → Type 0
IsWord None words None = ⊤
IsWord (Some response) words (Some word) = word ≡ response words
IsWord None words (Some word) = ⊥
IsWord (Some response) words None = ⊥

-- the plant of a thread has done one step, which took a word and returned a word; the others are
-- unchanged
pub record HasStepped (before after : List (Option Response)) (thread taken : ℕ)
    (word : Option ℕ) : Type 0 where
  pub continues : Continues (response_at before thread) (response_at after thread) (taken ∷ [])
  pub word_is : IsWord (response_at before thread) (taken ∷ []) word
  pub others : (k : ℕ) → k ≢ thread → response_at after k ≡ response_at before k

-- the start of a run of n cycles in loops with these plants, which are sampled every `every` cycles
abbrev pub loop_start : List (Option Response) → ℕ → Start → ℕ → Start
loop_start responses every s n = sampled_start (response_at responses) every s n
