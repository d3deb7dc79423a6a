-- The trace of a thread, the dump, and the settings of the scheduling, over a setup, an image and
-- eight ports.
use Rattle.std.specs.Prelude.{ℕ, List, Option, Result, Ok}
use Rattle.fp_io.specs.Content.{FileMap}
use Rattle.fp_ports.specs.PluggedPorts.{Row}
use Rattle.machine.specs.DumpedState.{seen}
use Rattle.phase_log.specs.Text.{phases_text}
use Rattle.core_model.specs.Phases.{phases}
use Rattle.trace_print.specs.Text.{text}
use Rattle.core_model.specs.World.{Start, events}
use Rattle.setup_model.specs.Start.{start}
use Rattle.commands.specs.declared.program.Program.{Program}
use Rattle.commands.specs.Answer.{Answer, then_by, ends}
use Rattle.commands.specs.Program.{program}

-- the start of a program's run of n cycles with the ports as they are handed in
abbrev pub start_of : Program → List (Option Row) → ℕ → Start
start_of p ports n = start p.setup p.image ports n

-- the lines of a thread's events that have retired after n cycles
abbrev pub trace_of : List (Option Row) → ℕ → ℕ → Program → Result (List ℕ) Answer
trace_of ports i n p = Ok (text (events (start_of p ports n) i n))

abbrev pub run_answer : FileMap → List (Option Row) → List ℕ → ℕ → ℕ → Answer
run_answer files ports name i n = ends (then_by (program files name) (trace_of ports i n))

-- the observed state of the machine after n cycles
abbrev pub dump_of : List (Option Row) → ℕ → Program → Result (List ℕ) Answer
dump_of ports n p = Ok (seen (start_of p ports n) n)

abbrev pub dump_answer : FileMap → List (Option Row) → List ℕ → ℕ → Answer
dump_answer files ports name n = ends (then_by (program files name) (dump_of ports n))

-- the lines of the settings that picking uses in n cycles
abbrev pub phases_of : List (Option Row) → ℕ → Program → Result (List ℕ) Answer
phases_of ports n p = Ok (phases_text (phases (start_of p ports n) n))

abbrev pub phases_answer : FileMap → List (Option Row) → List ℕ → ℕ → Answer
phases_answer files ports name n = ends (then_by (program files name) (phases_of ports n))
