-- The settings in the tables of an accepted setup.
use Rattle.std.specs.Prelude.{ℕ, ◌+◌, ◌*◌, ◌==◌, false, List, [], ◌∷◌, Option}
use Rattle.std.specs.Prelude.{None, map, find, unwrap_or, option_map, codes}
use Rattle.std.specs.Option.{option_map_or}
use Rattle.toml.specs.Data.{Data, Members, get_member}
use Rattle.fp_setup.specs.declared.thread_list.ThreadSetup.{ThreadSetup}
use Rattle.fp_setup.specs.declared.loop_list.LoopSetup.{LoopSetup}
use Rattle.fp_setup.specs.declared.vocabulary.Words.{Words}
use Rattle.fp_setup.specs.declared.vocabulary.Words.TheVariants.{Slots, Owners, Modes}
use Rattle.fp_setup.specs.Settings.{Settings}
use Rattle.fp_setup.specs.Vocabulary.{Text, number_of}
use Rattle.fp_setup.specs.Values.{number, text, members, number_at}
use Rattle.fp_setup.specs.Values.{text_at, truth_at, elements_at, input_of}

-- the number with these digits in a base, the lowest first
abbrev pub word_of : ℕ → List ℕ → ℕ
word_of base [] = 0
word_of base (digit ∷ digits) = digit + base * word_of base digits

-- the number of a text of a list
unfoldable pub number_of_name : Words → Text → ℕ
number_of_name words t = unwrap_or (number_of words t) 0

-- a word of eight nibbles, the lowest first, each by its text
unfoldable pub nibble_word : Words → List Data → ℕ
nibble_word words ds = word_of 16 (map (λ d. number_of_name words (text d)) ds)

-- the table of a loop
unfoldable pub loop_of : Members → LoopSetup
loop_of row = record {
  head = number_at (codes "head") row;
  last = number_at (codes "last") row;
  limit = number_at (codes "bound") row;
}

-- the table of a thread: its id and mode, and its other settings
abbrev pub id_at : Members → ℕ
id_at row = number_at (codes "id") row

abbrev pub mode_at : Members → ℕ
mode_at row = number_of_name Modes (text_at (codes "mode") row)

unfoldable pub thread_setup : Members → ThreadSetup
thread_setup row = record {
  entry = number_at (codes "entry") row;
  confined = truth_at (codes "confined") row;
  permit = truth_at (codes "permit") row;
  unplug = option_map number (get_member (codes "unplug") row);
  inputs = map input_of (elements_at (codes "inputs") row);
}

-- a thread without a table: soft and asleep, from address 0 on
abbrev pub default_thread : ThreadSetup
default_thread = record { entry = 0; confined = false; permit = false; unplug = None; inputs = [] }

abbrev pub unnamed_mode : ℕ
unnamed_mode = 3

-- the table of a thread, and the settings of each of the eight threads
abbrev pub table_of : List Members → ℕ → Option Members
table_of rows thread = find (λ row. id_at row == thread) rows

abbrev pub the_threads : List ℕ
the_threads = 0 ∷ 1 ∷ 2 ∷ 3 ∷ 4 ∷ 5 ∷ 6 ∷ 7 ∷ []

abbrev pub said_of : {X : Type 0} → (Members → X) → X → List Members → ℕ → X
said_of say other rows thread = option_map_or say (table_of rows thread) other

unfoldable pub threads_of : List Members → List ThreadSetup
threads_of rows = map (said_of thread_setup default_thread rows) the_threads

unfoldable pub modes_of : List Members → List ℕ
modes_of rows = map (said_of mode_at unnamed_mode rows) the_threads

-- the tables in a list
abbrev pub rows_at : Text → Members → List Members
rows_at name ms = map members (elements_at name ms)

abbrev pub version_at : Members → ℕ
version_at ms = option_map_or number (get_member (codes "version") ms) 1

-- the settings of the top table
unfoldable pub settings : Members → Settings
settings ms = record {
  version = version_at ms;
  period = number_at (codes "period") ms;
  slots = nibble_word Slots (elements_at (codes "slots") ms);
  modes = word_of 4 (modes_of (rows_at (codes "thread") ms));
  iregions = nibble_word Owners (elements_at (codes "i_regions") ms);
  dregions = nibble_word Owners (elements_at (codes "d_regions") ms);
  image = text_at (codes "image") ms;
  threads = threads_of (rows_at (codes "thread") ms);
  loops = map loop_of (rows_at (codes "loop") ms);
}
