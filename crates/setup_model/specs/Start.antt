-- The start of the machine of a setup and an image, with eight ports as they are handed in.
use Rattle.std.specs.Prelude.{ℕ, ◌+◌, ◌*◌, ◌/◌, Bool, true, false, List}
use Rattle.std.specs.Prelude.{slice_index_or, map, replicate, Option, Some, None}
use Rattle.std.specs.List.{range_with_len}
use Rattle.region_guard.specs.MemoryMap.{data_start}
use Rattle.fp_image.specs.Rules.{word}
use Rattle.fp_image.specs.declared.parts.Segment.{Segment}
use Rattle.fp_ports.specs.PluggedPorts.{Row, row_at}
use Rattle.fp_ports.specs.ShownWords.{shown}
use Rattle.fp_setup.specs.SetupOfTables.{default_thread, the_threads}
use Rattle.fp_setup.specs.Settings.{Settings, size_of}
use Rattle.fp_setup.specs.declared.input_list.Input.{Input}
use Rattle.fp_setup.specs.declared.thread_list.ThreadSetup.{ThreadSetup}
use Rattle.core_model.specs.Thread.{fresh}
use Rattle.core_model.specs.World.{Start}

-- the words of a scratchpad of a size that begins at an address
unfoldable pub words_from : List Segment → ℕ → ℕ → List ℕ
words_from image base size = map (λ k. word image (base + 4 * k)) (range_with_len 0 (size / 4))

-- the words of the instruction scratchpad
abbrev pub i_words_of : Settings → List Segment → List ℕ
i_words_of s image = words_from image 0 (size_of s.version)

-- the words of the data scratchpad
abbrev pub d_words_of : Settings → List Segment → List ℕ
d_words_of s image = words_from image data_start (size_of s.version)

-- a setup's settings of one of the threads
abbrev pub thread_setup_of : Settings → ℕ → ThreadSetup
thread_setup_of s i = slice_index_or s.threads i default_thread

-- the inputs of a thread as pairs of a cycle and a word
abbrev pub inputs_of : ThreadSetup → List (ℕ × ℕ)
inputs_of t = map (λ (input : Input). (input.at, input.word)) t.inputs

-- the words that a thread reads at its port in the first n cycles
abbrev pub shown_to : Settings → List (Option Row) → ℕ → ℕ → List ℕ
shown_to s ports n i =
    shown (row_at ports i) (inputs_of (thread_setup_of s i)) (thread_setup_of s i).unplug n

-- whether a port was handed in
abbrev pub is_handed : Option Row → Bool
is_handed None = false
is_handed (Some row) = true

-- the latch of a port at the start; an absent port counts as 0
abbrev pub first_latch : Option Row → ℕ
first_latch None = 0
first_latch (Some row) = row.latch

-- the start of a run of n cycles
unfoldable pub start : Settings → List Segment → List (Option Row) → ℕ → Start
start s image ports n =
    record {
      period = s.period;
      size = size_of s.version;
      threads = map (λ (t : ThreadSetup). fresh t.entry) s.threads;
      confined = map (λ (t : ThreadSetup). t.confined) s.threads;
      permit = map (λ (t : ThreadSetup). t.permit) s.threads;
      i_words = i_words_of s image;
      d_words = d_words_of s image;
      registers =
          record { slots = s.slots; modes = s.modes; dregions = s.dregions; iregions = s.iregions };
      shown = map (shown_to s ports n) the_threads;
      handed = map is_handed ports;
      unplugs = map (λ (t : ThreadSetup). t.unplug) s.threads;
      latches = map first_latch ports;
    }

-- eight absent ports
abbrev pub no_ports : List (Option Row)
no_ports = replicate 8 None
