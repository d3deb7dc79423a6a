-- What the examples of plants do, in the words of the plant.
use Rattle.std.specs.Prelude.{◌≡◌, ℕ, ◌+◌, ◌-◌, ◌*◌, ◌%◌, ◌<◌, ℤ, pos, ◌-ℤ◌}
use Rattle.std.specs.Prelude.{◌<ℤ◌, ◌≤ℤ◌, List, [], ◌∷◌, ◌++◌, All, fold, length, min}
use Rattle.std.specs.Prelude.{replicate, slice_index_or}
use Rattle.std.specs.Int.{w32, cast_signed}
use Rattle.std.specs.Int.RustNames.{FitsSigned}
use Rattle.example_plants.specs.Lag.{lag_step}
use Rattle.example_plants.specs.Heating.{Heated, cold, after}
use Rattle.example_plants.specs.Motion.{resting, motor_after}
use Rattle.example_plants.specs.Recordings.{unplayed, played_after}
use Rattle.example_plants.specs.Tables.{unused, entry_after}

-- from one number to another
abbrev pub IsFrom : ℤ → ℤ → ℤ → Type 0
IsFrom low high z = (low ≤ℤ z) × (z ≤ℤ high)

-- A lag approaches its target and never passes it. Downward it moves in each step.
abbrev pub LagsApproach : Type 0
LagsApproach =
    (value target : ℤ) (bits : ℕ) → FitsSigned w32 value → FitsSigned w32 target →
    (value ≤ℤ target → IsFrom value target (lag_step value target bits))
    × (target <ℤ value → (target ≤ℤ lag_step value target bits)
    × (lag_step value target bits <ℤ value))

-- A word as heating, from one number to another.
abbrev pub HeatsFrom : ℤ → ℤ → ℕ → Type 0
HeatsFrom low high word = IsFrom low high (cast_signed w32 word)

-- A body that was cold stays in the range of its heating; the load, of 4.0, extends it downward.
abbrev pub HeatStaysInRange : Type 0
HeatStaysInRange =
    (low high : ℤ) (unloaded : ℕ) (words : List ℕ) → low ≤ℤ pos 0 → pos 0 ≤ℤ high →
    All (HeatsFrom low high) words →
    IsFrom (low -ℤ pos 0x40000) high (fold after (cold unloaded) words).body
    × IsFrom (low -ℤ pos 0x40000) high (fold after (cold unloaded) words).sensor

-- A warm body without heating and load cools in each step, down to 0. A sensor that is warmer than
-- its body cools too.
abbrev pub UnheatedCools : Type 0
UnheatedCools =
    (heated : Heated) → FitsSigned w32 heated.body → FitsSigned w32 heated.sensor →
    1 < heated.unloaded → pos 0 <ℤ heated.body →
    (pos 0 ≤ℤ (after heated 0).body) × ((after heated 0).body <ℤ heated.body)
    × (heated.body ≤ℤ heated.sensor → (after heated 0).sensor <ℤ heated.sensor)

-- A motor at rest without voltage stays at rest until its load comes.
abbrev pub MotorStaysAtRest : Type 0
MotorStaysAtRest =
    (unloaded n : ℕ) → n < unloaded →
    fold motor_after (resting unloaded) (replicate n 0) ≡ resting (unloaded - n)

-- The word after n steps is entry n, and the last one from the end on.
abbrev pub PlaysInOrder : Type 0
PlaysInOrder =
    (words taken : List ℕ) → 0 < length words → played_after (unplayed words) taken
    ≡ slice_index_or words (min (length taken) (length words - 1)) 0

-- The entry is that of the last two words.
abbrev pub ShowsLastTwo : Type 0
ShowsLastTwo =
    (words taken : List ℕ) (a b : ℕ) → entry_after (unused words) (taken ++ a ∷ b ∷ [])
    ≡ slice_index_or words ((b + 3 * a) % length words) 0
