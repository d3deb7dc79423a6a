-- The trap registers of the threads: for each thread a row.
use Rattle.std.specs.Prelude.{◌≡◌, ℕ, ◌%◌, ◌==◌, Bool, ◌||◌, List, slice_index_or}
use Rattle.rv_decode.specs.CsrNumbers.{csr_mtvec, csr_mscratch, csr_mepc, csr_mcause}
use Rattle.core_model.specs.declared.own.Trapping.{Trapping}
use Rattle.core_model.specs.declared.own.Own.{Own}
use Rattle.core_model.specs.Thread.{no_own}
use Rattle.core_model.specs.Csr.{legal_value}

-- a thread's trap registers at the start
abbrev pub no_trap : Trapping
no_trap = record { mtvec = 0; mscratch = 0; mepc = 0; mcause = 0 }

-- the trap registers of one of the threads
abbrev pub trap_of : List Trapping → ℕ → Trapping
trap_of traps thread = slice_index_or traps thread no_trap

-- the two low bits of mtvec and mepc are 0
abbrev pub IsAlignedTrap : Trapping → Type 0
IsAlignedTrap trap = (trap.mtvec % 4 ≡ 0) × (trap.mepc % 4 ≡ 0)

-- the numbers of these registers: mtvec, mscratch, mepc and mcause
abbrev pub is_trap_csr : ℕ → Bool
is_trap_csr csr = csr == csr_mtvec || csr == csr_mscratch || csr == csr_mepc || csr == csr_mcause

-- a thread's state with these trap registers, as input of the definitions of one thread
abbrev pub with_trap : Trapping → Own
with_trap trap = record no_own { trap = trap }

-- a thread's trap registers once a trap has saved the pc and the cause
abbrev pub trap_entry : Trapping → ℕ → ℕ → Trapping
trap_entry trap cause epc = record trap { mepc = legal_value csr_mepc epc; mcause = cause }
