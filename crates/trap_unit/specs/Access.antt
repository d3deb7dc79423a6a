-- An access to a register by its number: its refusals, its result and its write.
use Rattle.std.specs.Prelude.{ℕ, ◌==◌, Bool, not, ◌&&◌, if◌then◌else◌, List}
use Rattle.std.specs.Prelude.{slice_set, Option, Some, None, Result, Ok, Err}
use Rattle.rv_decode.specs.CsrNumbers.{csr_mhartid, csr_slots, csr_modes}
use Rattle.rv_decode.specs.CsrNumbers.{csr_dregions, csr_iregions}
use Rattle.region_guard.specs.declared.access.Guard.{Guard}
use Rattle.slot_scheduler.specs.declared.picking.Sched.{Sched}
use Rattle.core_model.specs.declared.own.Trapping.{Trapping}
use Rattle.core_model.specs.declared.own.CsrOp.{CsrOp}
use Rattle.core_model.specs.Csr.{is_shared, csr_value, csr_update, may_hold, legal_value, with_csr}
use Rattle.trap_unit.specs.declared.unit.CsrDone.{CsrDone}
use Rattle.trap_unit.specs.declared.unit.CsrNo.{CsrNo}
use Rattle.trap_unit.specs.declared.unit.CsrNo.TheVariants.{Unknown, NoPermit, ReadOnly, BadValue}
use Rattle.trap_unit.specs.Rows.{trap_of, with_trap}

-- one of the machine's registers 0x7C0 to 0x7C3
abbrev pub shared_value : Sched → Guard → ℕ → ℕ
shared_value s g csr =
    if csr == csr_slots then s.slots
    else if csr == csr_modes then s.modes
    else if csr == csr_dregions then g.d
    else g.i

-- the value of a register by its number; None if no register has the number
unfoldable pub value_by : List Trapping → Sched → Guard → ℕ → ℕ → Option ℕ
value_by traps s g thread csr =
    csr_value thread (with_trap (trap_of traps thread)) csr (Some (shared_value s g csr))

-- the old value, and the written value, as stored in the register
abbrev pub done_with : CsrOp → ℕ → ℕ → Bool → ℕ → CsrDone
done_with op csr operand writes old =
    record {
      old = old;
      written = if writes then Some (legal_value csr (csr_update op old operand)) else None;
    }

-- the result of an access, from the register's old value: the first refusal that applies, else the
-- values of the access. mhartid (0xF14) is read only
abbrev pub answer_by : Bool → CsrOp → ℕ → ℕ → Bool → Option ℕ → Result CsrDone CsrNo
answer_by permit op csr operand writes None = Err Unknown
answer_by permit op csr operand writes (Some old) =
    if is_shared csr && not permit then Err NoPermit
    else if csr == csr_mhartid && writes then Err ReadOnly
    else if writes && not (may_hold csr (csr_update op old operand)) then Err BadValue
    else Ok (done_with op csr operand writes old)

-- the value that an access writes, if it writes one
abbrev pub written_in : Result CsrDone CsrNo → Option ℕ
written_in (Ok done) = done.written
written_in (Err refusal) = None

-- the threads' registers after a write to one of them; other numbers don't change them
abbrev pub traps_after : List Trapping → ℕ → ℕ → Option ℕ → List Trapping
traps_after traps thread csr None = traps
traps_after traps thread csr (Some value) =
    slice_set traps thread (with_csr (with_trap (trap_of traps thread)) csr value).trap

-- slots and modes after a write to one of them; other numbers don't change them
abbrev pub sched_after : Sched → ℕ → Option ℕ → Sched
sched_after s csr None = s
sched_after s csr (Some value) =
    if csr == csr_slots then record s { slots = value }
    else if csr == csr_modes then record s { modes = value }
    else s

-- the region registers after a write to one of them; other numbers don't change them
abbrev pub guard_after : Guard → ℕ → Option ℕ → Guard
guard_after g csr None = g
guard_after g csr (Some value) =
    if csr == csr_dregions then record g { d = value }
    else if csr == csr_iregions then record g { i = value }
    else g
