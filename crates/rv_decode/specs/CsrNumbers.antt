-- The numbers of the control and status registers. Source: RISC-V privileged manual, "CSR Listing",
-- for the first five; the last four are this project's, at numbers that the manual leaves free.
use Rattle.std.specs.Prelude.{ℕ}

-- the target of traps
abbrev pub csr_mtvec : ℕ
csr_mtvec = 0x305

-- a scratch word that traps don't change
abbrev pub csr_mscratch : ℕ
csr_mscratch = 0x340

-- the pc of a trap
abbrev pub csr_mepc : ℕ
csr_mepc = 0x341

-- the cause of a trap
abbrev pub csr_mcause : ℕ
csr_mcause = 0x342

-- the thread's own number, read only
abbrev pub csr_mhartid : ℕ
csr_mhartid = 0xF14

-- who has the slots of the frame
abbrev pub csr_slots : ℕ
csr_slots = 0x7C0

-- which threads are active, and which are soft
abbrev pub csr_modes : ℕ
csr_modes = 0x7C1

-- who has the regions of the data scratchpad
abbrev pub csr_dregions : ℕ
csr_dregions = 0x7C2

-- the owners of the regions of the instruction scratchpad
abbrev pub csr_iregions : ℕ
csr_iregions = 0x7C3
