-- The fault of a run, from that of a step.
use Rattle.std.specs.Prelude.{ℕ}
use Rattle.command_line.specs.declared.asked.WordsNo.{WordsNo}
use Rattle.command_line.specs.declared.asked.WordsNo.TheVariants as words
use Rattle.commands.specs.Answer.{status_of}
use Rattle.commands.specs.declared.stop.CommandStop.TheVariants as stop
use Rattle.loop_command_line.specs.declared.plants.ListNo.{ListNo}
use Rattle.loop_command_line.specs.declared.plants.ListNo.TheVariants as list
use Rattle.loop_commands.specs.declared.fault.LoopFault.{LoopFault}
use Rattle.loop_commands.specs.declared.fault.LoopFault.TheVariants.{Usage, Listed, Stopped, Write}

abbrev pub no_memory : LoopFault
no_memory = Stopped stop.NoMemory

-- of the arguments
abbrev pub of_words : WordsNo → LoopFault
of_words words.Usage = Usage
of_words words.NoMemory = no_memory

-- of the list of plants
abbrev pub of_list : ListNo → LoopFault
of_list list.NoMemory = no_memory
of_list why = Listed why

-- the number of its status
abbrev pub status_of_fault : LoopFault → ℕ
status_of_fault Usage = 2
status_of_fault (Listed why) = 2
status_of_fault (Stopped (stop.Refused refusal)) = status_of refusal
status_of_fault (Stopped (stop.Differs line)) = 1
status_of_fault (Stopped stop.Read) = 7
status_of_fault (Stopped stop.NoMemory) = 9
status_of_fault Write = 8
