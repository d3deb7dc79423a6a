-- The causes of traps. Source: RISC-V privileged manual, "Machine Cause Register"; the expiry is
-- this project's, at a number that the manual leaves to the platform.
use Rattle.std.specs.Prelude.{ℕ}

-- a jump or a taken branch to an address that is no multiple of 4
abbrev pub cause_misaligned_target : ℕ
cause_misaligned_target = 0

-- a refused fetch
abbrev pub cause_fetch_fault : ℕ
cause_fetch_fault = 1

-- a word that is no instruction, or a refused access to a register
abbrev pub cause_illegal : ℕ
cause_illegal = 2

-- EBREAK
abbrev pub cause_breakpoint : ℕ
cause_breakpoint = 3

-- a load with an unaligned address, and a refused load
abbrev pub cause_misaligned_load : ℕ
cause_misaligned_load = 4

abbrev pub cause_load_fault : ℕ
cause_load_fault = 5

-- a store with an unaligned address, and a refused store
abbrev pub cause_misaligned_store : ℕ
cause_misaligned_store = 6

abbrev pub cause_store_fault : ℕ
cause_store_fault = 7

-- ECALL
abbrev pub cause_environment_call : ℕ
cause_environment_call = 11

-- the moment that EE armed is reached
abbrev pub cause_expiry : ℕ
cause_expiry = 24
