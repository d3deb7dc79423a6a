-- A run in closed loops from its arguments and files.
use Rattle.std.specs.Prelude.{◌≡◌, ◌≢◌, ◌⊎◌, ℕ, List, Option, Some, None}
use Rattle.std.specs.Prelude.{IfSome, IsSomeAnd, Ok, Err}
use Rattle.fp_io.specs.Causes.{HasRisen}
use Rattle.fp_io.specs.Content.{FileMap, IsMissing}
use Rattle.commands.specs.Program.{program}
use Rattle.commands.specs.Stops.{IsStopIn}
use Rattle.commands.specs.declared.stop.CommandStop.{CommandStop}
use Rattle.commands.specs.declared.stop.CommandStop.TheVariants as stop
use Rattle.loop_command_line.specs.Plants.{Plants, plants_of}
use Rattle.loop_command_line.specs.declared.arguments.LoopAsk.{LoopAsk}
use Rattle.loop_command_line.specs.declared.plants.ListNo.{ListNo}
use Rattle.loop_commands.specs.Faults.{no_memory}
use Rattle.loop_commands.specs.declared.fault.LoopFault.{LoopFault}
use Rattle.loop_commands.specs.declared.fault.LoopFault.TheVariants.{Usage, Listed, Stopped}

-- the list with a name has these plants
abbrev pub Lists : Option FileMap → List ℕ → Plants → Type 0
Lists contents name plants =
    IfSome contents (λ files. IsSomeAnd (files name) (λ text. plants_of text ≡ Ok plants))

-- the list with a name has this fault
abbrev pub ListHasFault : Option FileMap → List ℕ → ListNo → Type 0
ListHasFault contents name why =
    IfSome contents (λ files. IsSomeAnd (files name) (λ text. plants_of text ≡ Err why))

-- Why a list isn't read. Out of memory is always allowed.
abbrev pub IsListFault : Option FileMap → List ℕ → ℕ → ℕ → LoopFault → Type 0
IsListFault contents name before after (Listed why) = ListHasFault contents name why
IsListFault contents name before after (Stopped stop.NoMemory) = Unit {0}
IsListFault contents name before after (Stopped stop.Read) =
    HasRisen before after ⊎ IsMissing contents name
IsListFault contents name before after _ = ⊥

-- the fault of a program or of a list, in a run that the arguments give
abbrev pub IsRunFault : Option FileMap → LoopAsk → ℕ → ℕ → LoopFault → Type 0
IsRunFault contents ask before after fault =
    ((why : CommandStop) × (fault ≡ Stopped why)
    × IsStopIn contents (λ files. program files ask.setup) before after why)
    ⊎ IsListFault contents ask.plants before after fault

-- Why arguments and files give no run. Out of memory is always allowed.
abbrev pub IsFaultOf : Option FileMap → Option LoopAsk → ℕ → ℕ → LoopFault → Type 0
IsFaultOf contents None before after fault = (fault ≡ Usage) ⊎ (fault ≡ no_memory)
IsFaultOf contents (Some ask) before after fault = (fault ≢ Usage)
    × ((fault ≡ no_memory) ⊎ IsRunFault contents ask before after fault)
