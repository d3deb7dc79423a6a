-- The plants that a list may name, and that are known.
use Rattle.std.specs.Prelude.{ℕ, List}
use Rattle.example_plants.specs.Heating.{sensor_word}
use Rattle.example_plants.specs.Motion.{speed_after}
use Rattle.example_plants.specs.Recordings.{played_after}
use Rattle.example_plants.specs.Tables.{entry_after}
use Rattle.example_plants.specs.declared.listed.ListedPlant.{ListedPlant}
use Rattle.example_plants.specs.declared.listed.ListedPlant.TheVariants.{Body, Motor}
use Rattle.example_plants.specs.declared.listed.ListedPlant.TheVariants.{Recorded, Table}

-- a plant's word after steps that take these words
abbrev pub known_response : ListedPlant → List ℕ → ℕ
known_response (Body body) words = sensor_word body words
known_response (Motor motor) words = speed_after motor words
known_response (Table table) words = entry_after table words
known_response (Recorded recorded) words = played_after recorded words
