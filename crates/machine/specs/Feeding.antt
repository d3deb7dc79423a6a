-- The inputs of a setup, fed to the ports.
use Rattle.std.specs.Prelude.{◌≡◌, ℕ, zero, suc, List, take, fold, slice_set, Option}
use Rattle.fp_ports.specs.PluggedPorts.{Row, row_at, fed}
use Rattle.fp_setup.specs.declared.input_list.Input.{Input}
use Rattle.fp_setup.specs.Settings.{Settings}
use Rattle.setup_model.specs.Start.{thread_setup_of}

-- one word fed to a thread's port, and words fed in order
abbrev pub fed_word : ℕ → List (Option Row) → Input → List (Option Row)
fed_word thread ports input = slice_set ports thread (fed (row_at ports thread) input.at input.word)

abbrev pub fed_words : ℕ → List (Option Row) → List Input → List (Option Row)
fed_words thread ports inputs = fold (fed_word thread) ports inputs

-- the ports after the inputs of the first k threads are fed, in order
abbrev pub fed_first : Settings → List (Option Row) → ℕ → List (Option Row)
fed_first s ports zero = ports
fed_first s ports (suc k) = fed_words k (fed_first s ports k) (thread_setup_of s k).inputs

-- the ports after all inputs are fed
abbrev pub fed_all : Settings → List (Option Row) → List (Option Row)
fed_all s ports = fed_first s ports 8

-- a prefix of the inputs was fed: all of the first threads, and the first ones of the next thread
abbrev pub IsFedPrefix : Settings → List (Option Row) → List (Option Row) → Type 0
IsFedPrefix s before after =
    (k : ℕ) × (j : ℕ)
    × (after ≡ fed_words k (fed_first s before k) (take j (thread_setup_of s k).inputs))
