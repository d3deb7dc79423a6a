-- The plants that a text lists: a line for each, with its thread, its kind and its numbers.
use Rattle.std.specs.Prelude.{ℕ, ◌==◌, ◌+◌, ◌&&◌, nat_lt, Bool, true, false, not, List, []}
use Rattle.std.specs.Prelude.{◌∷◌, length, replicate, set, slice_index_or, Option, Some, None}
use Rattle.std.specs.Prelude.{Result, Ok, Err, codes, is_none, option_map, option_and_then}
use Rattle.std.specs.Prelude.{if◌then◌else◌}
use Rattle.std.specs.List.{list_any}
use Rattle.std.specs.Str.{bytes_eq}
use Rattle.fp_setup.specs.Checks.{largest_word}
use Rattle.fp_setup.specs.Vocabulary.{Text}
use Rattle.command_line.specs.Numbers.{number_in, thread_in}
use Rattle.loop_command_line.specs.Lines.{lines_of, words_of}
use Rattle.loop_command_line.specs.declared.kind.Kind.{Kind}
use Rattle.loop_command_line.specs.declared.kind.Kind.TheVariants.{Body, Motor, Table, Recorded}
use Rattle.loop_command_line.specs.declared.kind.Kind.TheVariants.{Pipe}
use Rattle.loop_command_line.specs.declared.plants.ListNo.{ListNo}
use Rattle.loop_command_line.specs.declared.plants.ListNo.TheVariants.{Line, TooLong}

-- a plant of a list
pub record Listed : Type 0 where
  pub kind : Kind
  pub words : List ℕ  -- its numbers

-- the kind with a name
abbrev pub kind_in : Text → Option Kind
kind_in name =
    if bytes_eq name (codes "body") then Some Body
    else if bytes_eq name (codes "motor") then Some Motor
    else if bytes_eq name (codes "table") then Some Table
    else if bytes_eq name (codes "recorded") then Some Recorded
    else if bytes_eq name (codes "pipe") then Some Pipe
    else None

-- whether a kind has so many numbers: a body and a motor have the step in which the load begins, a
-- table and a recording have their words, and a pipe has none
abbrev pub takes : Kind → ℕ → Bool
takes Body n = n == 1
takes Motor n = n == 1
takes Table n = nat_lt 0 n
takes Recorded n = nat_lt 0 n
takes Pipe n = n == 0

-- the numbers of words, each at most 4,294,967,295
unfoldable pub numbers_in : List Text → Option (List ℕ)
numbers_in [] = Some []
numbers_in (word ∷ words) =
    option_and_then (λ n. option_map (λ ns. n ∷ ns) (numbers_in words))
    (number_in largest_word word)

-- a kind with its numbers, if it has so many
abbrev pub with_numbers : Option Kind → Option (List ℕ) → Option Listed
with_numbers (Some kind) (Some ns) =
    if takes kind (length ns) then Some (record { kind = kind; words = ns }) else None
with_numbers _ _ = None

-- the plant of a line, from the words after its thread
unfoldable pub plant_in : List Text → Option Listed
plant_in [] = None
plant_in (kind ∷ words) = with_numbers (kind_in kind) (numbers_in words)

-- the plants of the eight threads; a thread may have none
abbrev pub Plants : Type 0
Plants = List (Option Listed)

-- whether a kind is the pipe
abbrev pub is_pipe_kind : Kind → Bool
is_pipe_kind Pipe = true
is_pipe_kind Body = false
is_pipe_kind Motor = false
is_pipe_kind Table = false
is_pipe_kind Recorded = false

-- whether a plant is at the pipe
abbrev pub is_pipe : Option Listed → Bool
is_pipe (Some plant) = is_pipe_kind plant.kind
is_pipe None = false

-- whether a plant may be added for a thread: it has none yet, and there is one pipe at most
abbrev pub has_room : Plants → ℕ → Listed → Bool
has_room plants thread plant =
    is_none (slice_index_or plants thread None)
    && not (is_pipe_kind plant.kind && list_any is_pipe plants)

-- plants with one more
abbrev pub with_plant : Plants → Option ℕ → Option Listed → Option Plants
with_plant plants (Some thread) (Some plant) =
    if has_room plants thread plant then Some (set plants thread (Some plant)) else None
with_plant plants _ _ = None

-- plants after a line of words; None if it lists no plant. A line without words, or whose first
-- word is `#`, adds none
unfoldable pub after_words : Plants → List Text → Option Plants
after_words plants [] = Some plants
after_words plants (word ∷ words) =
    if bytes_eq word (codes "#") then Some plants
    else with_plant plants (thread_in word) (plant_in words)

-- the plants after more lines from this number on, or the first line that lists none
abbrev pub or_line : ℕ → Option Plants → (Plants → Result Plants ListNo) → Result Plants ListNo
or_line number (Some plants) next = next plants
or_line number None next = Err (Line number)

unfoldable pub after_lines : ℕ → Plants → List Text → Result Plants ListNo
after_lines number plants [] = Ok plants
after_lines number plants (line ∷ lines) =
    or_line number (after_words plants (words_of line))
    (λ more. after_lines (number + 1) more lines)

-- no thread has a plant
abbrev pub no_plants : Plants
no_plants = replicate 8 None

-- the most bytes of a list
abbrev pub most_list_bytes : ℕ
most_list_bytes = 67108864

-- The plants that a text lists, by thread, or why it lists none. Its lines are numbered from 1.
unfoldable pub plants_of : List ℕ → Result Plants ListNo
plants_of text =
    if nat_lt most_list_bytes (length text) then Err TooLong
    else after_lines 1 no_plants (lines_of text)
