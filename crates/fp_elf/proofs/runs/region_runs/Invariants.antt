use Rattle.std.proofs.Common.{◌≡◌, ◌+◌, ◌-◌, ◌*◌, ℕ, List, reverse}
use Rattle.fp_elf.specs.Elf.{has_word, runs_from}
use Rattle.fp_elf.specs.Memory.{Holds}
use Rattle.fp_elf.specs.declared.headers.ProgramHeader.{ProgramHeader}
use Rattle.fp_elf.proofs.runs.region_runs.Given as goal

abbrev pub invariant-loop-step : goal.invariant-loop-step
invariant-loop-step l =
    (file : List ℕ) (loads : List ProgramHeader) →
    Holds file loads l.memory.taken.items l.memory.bytes.items →
    reverse l.runs.items ≡ runs_from (has_word loads) (l.base + 4 * (16384 - l.step)) l.step
