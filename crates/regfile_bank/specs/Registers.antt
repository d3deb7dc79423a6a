-- The registers of the threads: for each a list of 31 words, which are x1 to x31.
use Rattle.std.specs.Prelude.{ℕ, ◌-◌, ◌==◌, if◌then◌else◌, List, [], slice_index_or, slice_set}

-- a register of one thread; x0 is 0
abbrev pub register : List ℕ → ℕ → ℕ
register regs x = if x == 0 then 0 else slice_index_or regs (x - 1) 0

-- the registers of one thread after a write; a write to x0 is ignored
abbrev pub with_register : List ℕ → ℕ → ℕ → List ℕ
with_register regs x value = if x == 0 then regs else slice_set regs (x - 1) value

-- the registers of one of the threads
abbrev pub registers_of : List (List ℕ) → ℕ → List ℕ
registers_of bank thread = slice_index_or bank thread []
