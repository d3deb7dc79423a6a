-- The output of the machine's own run: the number of retired events of each thread, and a hash of
-- the text of its trace. Source: this project's profile.
use Rattle.std.specs.Prelude.{ℕ, ◌+◌, ◌*◌, ◌%◌, ◌^◌, List, ◌++◌, length, decimal}
use Rattle.std.specs.Prelude.{codes, fold, map, flat_map, slice_index_or}
use Rattle.fp_setup.specs.SetupOfTables.{the_threads}
use Rattle.rv_exec.specs.declared.outcome.Event.{Event}
use Rattle.setup_model.specs.Start.{start, no_ports}
use Rattle.trace_print.specs.Digits.{hex}
use Rattle.trace_print.specs.Text.{text}
use Rattle.core_model.specs.World.{Start, events}
use Rattle.selfrun.specs.declared.tally.Tally.{Tally}
use Rattle.selfrun.specs.Drawn.{own_setup, programs}

-- a hash with one byte appended
abbrev pub with_byte : ℕ → ℕ → ℕ
with_byte h byte = (h * 31 + byte) % 2 ^ 32

-- the hash after some bytes
unfoldable pub fold_of : ℕ → List ℕ → ℕ
fold_of h bytes = fold with_byte h bytes

-- the tally of a thread's events
unfoldable pub tally_of : List Event → Tally
tally_of es = record { events = length es; fold = fold_of 0 (text es) }

-- the line of thread k
unfoldable pub tally_line : ℕ → Tally → List ℕ
tally_line k t =
    codes "T" ++ (decimal k
    ++ (codes " events " ++ (decimal t.events ++ (codes " fold " ++ (hex 8 t.fold ++ codes "\n")))))

-- a run of n cycles of the programs drawn from a number, with no port
unfoldable pub own_start : ℕ → ℕ → Start
own_start number n = start own_setup (programs number) no_ports n

-- the number of cycles of the run
abbrev pub own_cycles : ℕ
own_cycles = 100000

-- the tallies of the threads after these cycles
unfoldable pub own_tallies : ℕ → List Tally
own_tallies number =
    map (λ k. tally_of (events (own_start number own_cycles) k own_cycles)) the_threads

-- the tally of no event
abbrev pub no_tally : Tally
no_tally = record { events = 0; fold = 0 }

-- the tally of thread k
abbrev pub tally_at : List Tally → ℕ → Tally
tally_at tallies k = slice_index_or tallies k no_tally

-- the lines of the eight threads, in order
abbrev pub tallies_text : List Tally → List ℕ
tallies_text tallies = flat_map (λ k. tally_line k (tally_at tallies k)) the_threads

-- the lines of the whole run
unfoldable pub selfrun_text : ℕ → List ℕ
selfrun_text number = tallies_text (own_tallies number)
