-- The memory in which the loads of a file were placed.
use Rattle.std.specs.Prelude.{ℕ, List}
use Rattle.fp_elf.specs.declared.headers.ProgramHeader.{ProgramHeader}
use Rattle.fp_elf.specs.declared.memory.Memory.{Memory}
use Rattle.fp_elf.specs.Memory.{Holds}

-- the memory holds the bytes of the loads
abbrev pub IsLoaded : List ℕ → List ProgramHeader → Memory → Type 0
IsLoaded file loads m = Holds file loads m.taken.items m.bytes.items
