-- The cause of each refusal of a list.
use Rattle.std.specs.Prelude.{◌≡◌, Result, Err}
use Rattle.loop_command_line.specs.declared.plants.ListNo.{ListNo}
use Rattle.loop_command_line.specs.declared.plants.ListNo.TheVariants.{NoMemory}

-- a text is refused only for its own fault; out of memory is always allowed
abbrev pub IsListCauseOf : {A : Type 0} → Result A ListNo → ListNo → Type 0
IsListCauseOf listed NoMemory = Unit {0}
IsListCauseOf listed refused = listed ≡ Err refused
