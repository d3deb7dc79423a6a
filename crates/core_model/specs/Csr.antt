-- Control and status registers: a thread's own, and the configuration registers.
use Rattle.std.specs.Prelude.{ℕ, ◌-◌, ◌*◌, ◌/◌, ◌^◌, ◌==◌, nat_le, Bool, true}
use Rattle.std.specs.Prelude.{false, ◌&&◌, ◌||◌, if◌then◌else◌, Option, Some, None}
use Rattle.rv_decode.specs.declared.instruction.AluOp.TheVariants.{Or, And}
use Rattle.rv_decode.specs.Lag.{redirect_lag}
use Rattle.rv_decode.specs.CsrNumbers.{csr_mtvec, csr_mscratch, csr_mepc, csr_mcause, csr_mhartid}
use Rattle.rv_decode.specs.CsrNumbers.{csr_slots, csr_modes, csr_dregions, csr_iregions}
use Rattle.rv_exec.specs.Alu.{alu_result}
use Rattle.rv_exec.specs.declared.outcome.Effect.TheVariants.{Csr}
use Rattle.rv_exec.specs.TrapCauses.{cause_illegal}
use Rattle.region_guard.specs.RegionsWord.{is_regions}
use Rattle.slot_table.specs.Table.{is_table}
use Rattle.slot_scheduler.specs.ModeWord.{is_modes}
use Rattle.core_model.specs.declared.own.Own.{Own}
use Rattle.core_model.specs.declared.own.CsrOp.{CsrOp}
use Rattle.core_model.specs.declared.own.CsrOp.TheVariants.{Swap, Set, Clear}
use Rattle.core_model.specs.Thread.{Execution}
use Rattle.core_model.specs.Traps.{trapped}
use Rattle.core_model.specs.Outcomes.{advance, write}

-- the number is that of a configuration register: slots, modes, dregions, iregions
abbrev pub is_shared : ℕ → Bool
is_shared csr = nat_le csr_slots csr && nat_le csr csr_iregions

-- the value of a register by its number (RISC-V privileged manual, "CSR Listing"): mtvec, mscratch,
-- mepc, mcause, mhartid, or a configuration register; None if no register has the number or the
-- access is refused
abbrev pub csr_value : ℕ → Own → ℕ → Option ℕ → Option ℕ
csr_value thread t csr shared =
    if csr == csr_mtvec then Some t.trap.mtvec
    else if csr == csr_mscratch then Some t.trap.mscratch
    else if csr == csr_mepc then Some t.trap.mepc
    else if csr == csr_mcause then Some t.trap.mcause
    else if csr == csr_mhartid then Some thread
    else if is_shared csr then shared
    else None

-- the new word, from the old one and the operand
unfoldable pub csr_update : CsrOp → ℕ → ℕ → ℕ
csr_update Swap old operand = operand
csr_update Set old operand = alu_result Or old operand
csr_update Clear old operand = alu_result And old (2 ^ 32 - 1 - operand)

-- whether a word may be written to a register; no word may be written to mhartid
unfoldable pub may_hold : ℕ → ℕ → Bool
may_hold csr value =
    if csr == csr_mhartid then false
    else if csr == csr_slots then is_table value
    else if csr == csr_modes then is_modes value
    else if csr == csr_dregions || csr == csr_iregions then is_regions value
    else true

-- the legal value (WARL) of a register: mtvec and mepc keep their two low bits 0
abbrev pub legal_value : ℕ → ℕ → ℕ
legal_value csr value = if csr == csr_mtvec || csr == csr_mepc then value / 4 * 4 else value

-- a thread with a new value in one of its own registers
abbrev pub with_csr : Own → ℕ → ℕ → Own
with_csr t csr value =
    if csr == csr_mtvec then record t { trap = record t.trap { mtvec = value } }
    else if csr == csr_mscratch then record t { trap = record t.trap { mscratch = value } }
    else if csr == csr_mepc then record t { trap = record t.trap { mepc = value } }
    else if csr == csr_mcause then record t { trap = record t.trap { mcause = value } }
    else t

-- an allowed write: the old value goes to `rd`
abbrev pub csr_write : ℕ → Own → ℕ → ℕ → ℕ → ℕ → ℕ → Execution
csr_write pc t word rd csr value old =
    advance pc (with_csr t csr value) word redirect_lag (Csr csr value rd old)

-- a write, refused if the register may not hold the word
abbrev pub csr_put : ℕ → Own → ℕ → ℕ → ℕ → ℕ → ℕ → Execution
csr_put pc t word rd csr new old =
    if may_hold csr new then csr_write pc t word rd csr (legal_value csr new) old
    else trapped pc t word cause_illegal

-- an access to a register with its old value, refused if that is None
abbrev pub csr_done : ℕ → Own → ℕ → ℕ → ℕ → CsrOp → ℕ → Bool → Option ℕ → Execution
csr_done pc t word rd csr op operand writes None = trapped pc t word cause_illegal
csr_done pc t word rd csr op operand writes (Some old) =
    if writes then csr_put pc t word rd csr (csr_update op old operand) old
    else write pc t word redirect_lag rd old

-- an access to a register; a refused access raises an illegal-instruction trap
unfoldable pub csr_access : ℕ → ℕ → Own → ℕ → ℕ → ℕ → CsrOp → ℕ → Bool → Option ℕ → Execution
csr_access thread pc t word rd csr op operand writes shared =
    csr_done pc t word rd csr op operand writes (csr_value thread t csr shared)
