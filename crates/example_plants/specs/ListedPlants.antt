-- The plants of a list, as their responses.
use Rattle.std.specs.Prelude.{ℕ, List, Option, Some, None, map, slice_index_or}
use Rattle.example_plants.specs.Heating.{cold, sensor_word}
use Rattle.example_plants.specs.Motion.{resting, speed_after}
use Rattle.example_plants.specs.Recordings.{played_after, unplayed}
use Rattle.example_plants.specs.Tables.{entry_after, unused}
use Rattle.loop_runs.specs.Plants.{Response}
use Rattle.loop_command_line.specs.Plants.{Listed}
use Rattle.loop_command_line.specs.declared.kind.Kind.{Kind}
use Rattle.loop_command_line.specs.declared.kind.Kind.TheVariants.{Body, Motor, Table, Recorded}
use Rattle.loop_command_line.specs.declared.kind.Kind.TheVariants.{Pipe}

-- the first number of a plant
abbrev pub first_of : List ℕ → ℕ
first_of words = slice_index_or words 0 0

-- the response of a kind with its numbers; what a plant at the pipe responds isn't known
abbrev pub response_of_kind : Kind → List ℕ → Option Response
response_of_kind Body words = Some (sensor_word (cold (first_of words)))
response_of_kind Motor words = Some (speed_after (resting (first_of words)))
response_of_kind Table words = Some (entry_after (unused words))
response_of_kind Recorded words = Some (played_after (unplayed words))
response_of_kind Pipe words = None

-- the response of a listed plant, or none
abbrev pub listed_response : Option Listed → Option Response
listed_response (Some plant) = response_of_kind plant.kind plant.words
listed_response None = None

-- the responses of the listed plants, by thread
abbrev pub listed_responses : List (Option Listed) → List (Option Response)
listed_responses plants = map listed_response plants
