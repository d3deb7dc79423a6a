-- When an adapter over the runtime's files counts a fault.
use Rattle.std.specs.Prelude.{Bool, true, false, Result, Ok, Err}
use Rattle.fp_io.specs.declared.files.FetchFault.{FetchFault}
use Rattle.fp_io.specs.declared.files.FetchFault.TheVariants.{Missing, Failed, NoMemory}

-- the result is a read fault
abbrev pub has_failed : {T : Type 0} → Result T FetchFault → Bool
has_failed (Ok bytes) = false
has_failed (Err Missing) = false
has_failed (Err Failed) = true
has_failed (Err NoMemory) = false
