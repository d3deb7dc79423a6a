-- The values that a command may have.
use Rattle.std.specs.Prelude.{ℕ, ◌<◌, ◌≤◌}
use Rattle.timer_unit.specs.Time.{most_cycles}
use Rattle.fp_setup.specs.Checks.{largest_word}
use Rattle.command_line.specs.declared.asked.Ask.{Ask}
use Rattle.command_line.specs.declared.asked.Ask.TheVariants.{Run, Dump, Asm, Bound, Selfrun}
use Rattle.command_line.specs.declared.asked.Ask.TheVariants.{Phases, Solo, Check, Elf, Calls}

-- the most cycles that a recorded trace is compared over
abbrev pub most_checked_cycles : ℕ
most_checked_cycles = 1000000

-- threads are below 8, cycles at most 4,000,000,000, those of `check` at most 1,000,000, the number
-- of `selfrun` at most 4,294,967,295
abbrev pub IsWithinLimits : Ask → Type 0
IsWithinLimits (Run setup thread cycles) = (thread < 8) × (cycles ≤ most_cycles)
IsWithinLimits (Dump setup cycles) = cycles ≤ most_cycles
IsWithinLimits (Asm source) = Unit {0}
IsWithinLimits (Bound setup thread section) = thread < 8
IsWithinLimits (Selfrun number) = number ≤ largest_word
IsWithinLimits (Phases setup cycles) = cycles ≤ most_cycles
IsWithinLimits (Solo setup thread cycles) = (thread < 8) × (cycles ≤ most_cycles)
IsWithinLimits (Check setup thread cycles trace) = (thread < 8) × (cycles ≤ most_checked_cycles)
IsWithinLimits (Elf file) = Unit {0}
IsWithinLimits (Calls setup thread section routines) = thread < 8
