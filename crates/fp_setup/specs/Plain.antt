-- The setup of given words, with nothing else in it.
use Rattle.std.specs.Prelude.{ℕ, ◌%◌, ◌==◌, ◌&&◌, nat_lt, Bool, false, List}
use Rattle.std.specs.Prelude.{[], None, map, slice_index, slice_index_or, codes}
use Rattle.region_guard.specs.MemoryMap.{small_size}
use Rattle.fp_setup.specs.declared.thread_list.ThreadSetup.{ThreadSetup}
use Rattle.fp_setup.specs.Settings.{Settings}
use Rattle.fp_setup.specs.SetupOfTables.{the_threads}

-- whether a thread of version 1 may start at an address
abbrev pub is_entry : ℕ → Bool
is_entry entry = nat_lt entry small_size && entry % 4 == 0

-- a thread with no permit, no unplug and no inputs
abbrev pub plain_thread : ℕ → Bool → ThreadSetup
plain_thread entry confined =
    record { entry = entry; confined = confined; permit = false; unplug = None; inputs = [] }

-- the thread of a number, by lists of the eight entries and flags
abbrev pub plain_at : List ℕ → List Bool → ℕ → ThreadSetup
plain_at entries confined thread =
    plain_thread (slice_index entries thread) (slice_index_or confined thread false)

unfoldable pub plain_threads : List ℕ → List Bool → List ThreadSetup
plain_threads entries confined = map (plain_at entries confined) the_threads

-- version 1, the image name `-` and no loops
abbrev pub plain_setup : ℕ → ℕ → ℕ → ℕ → ℕ → List ℕ → List Bool → Settings
plain_setup period slots modes iregions dregions entries confined = record {
  version = 1;
  period = period;
  slots = slots;
  modes = modes;
  iregions = iregions;
  dregions = dregions;
  image = codes "-";
  threads = plain_threads entries confined;
  loops = [];
}
