-- The result of an access, and the instruction's execution by it.
use Rattle.std.proofs.Common.{◌≡◌, ℕ, Option, Some, None, Bool, true, false}
use Rattle.std.proofs.Common.{inl, inr, refl, ap, ap₂, subst, ◌∙◌}
use Rattle.std.specs.Prelude.{slice_set, if◌then◌else◌, ◌==◌, ◌&&◌, not, Result, Ok, Err}
use Rattle.std.proofs.lemmas.Bool.Decides.{eqb_tells}
use Rattle.rv_decode.specs.Lag.{redirect_lag}
use Rattle.rv_decode.specs.CsrNumbers.{csr_mtvec, csr_mscratch, csr_mepc}
use Rattle.rv_decode.specs.CsrNumbers.{csr_mcause, csr_mhartid, csr_slots, csr_modes}
use Rattle.rv_exec.specs.TrapCauses.{cause_illegal}
use Rattle.rv_exec.specs.declared.outcome.Effect.TheVariants.{Csr}
use Rattle.slot_scheduler.specs.declared.picking.Sched.{Sched}
use Rattle.core_model.specs.declared.own.Own.{Own}
use Rattle.core_model.specs.declared.own.CsrOp.{CsrOp}
use Rattle.core_model.specs.Thread.{Execution}
use Rattle.core_model.specs.Traps.{trapped}
use Rattle.core_model.specs.Outcomes.{plus, write}
use Rattle.core_model.specs.Csr.{is_shared, csr_value, csr_update, may_hold}
use Rattle.core_model.specs.Csr.{legal_value, with_csr, csr_write, csr_done, csr_access}
use Rattle.trap_unit.specs.declared.unit.CsrDone.{CsrDone}
use Rattle.trap_unit.specs.declared.unit.CsrNo.{CsrNo}
use Rattle.trap_unit.specs.declared.unit.CsrNo.TheVariants.{BadValue}
use Rattle.trap_unit.specs.Access.{answer_by, done_with, guard_after, sched_after, traps_after}
use Rattle.trap_unit.specs.Rows.{with_trap}
use Rattle.hart_exec.specs.declared.hart.Hart.{Hart}
use Rattle.hart_exec.specs.declared.result.ExecResult.{ExecResult}
use Rattle.hart_exec.specs.Units.{RefinesExecution, Units, abstract_result}
use Rattle.hart_exec.specs.Units.{own_of, own_at, units_after, units_of}
use Rattle.hart_exec.proofs.Left.{left, sleep_kept, timers_kept}

-- the execution of a CSR instruction, by the result of the access
abbrev pub by_written : ℕ → Own → ℕ → ℕ → ℕ → ℕ → Option ℕ → Execution
by_written pc t w rd csr old None = write pc t w redirect_lag rd old
by_written pc t w rd csr old (Some value) = csr_write pc t w rd csr value old

abbrev pub by_answer : ℕ → Own → ℕ → ℕ → ℕ → Result CsrDone CsrNo → Execution
by_answer pc t w rd csr (Ok done) = by_written pc t w rd csr done.old done.written
by_answer pc t w rd csr (Err refusal) = trapped pc t w cause_illegal

-- with a known old value, if neither the permit nor the number refuses the access
done-same : (permit : Bool) (pc : ℕ) (t : Own) (w rd csr : ℕ) (op : CsrOp) (operand old : ℕ)
    (writes : Bool) → (is_shared csr && not permit) ≡ false → (csr == csr_mhartid) ≡ false →
    csr_done pc t w rd csr op operand writes (Some old)
    ≡ by_answer pc t w rd csr (answer_by permit op csr operand writes (Some old))
done-same permit pc t w rd csr op operand old writes h m =
    rw (h, m) (go writes (may_hold csr (csr_update op old operand)))
  where
    go : (b held : Bool) →
        (if b
        then (if held then csr_write pc t w rd csr (legal_value csr (csr_update op old operand)) old
        else trapped pc t w cause_illegal)
        else write pc t w redirect_lag rd old)
        ≡ by_answer pc t w rd csr
        (if b && not held then Err BadValue else Ok (done_with op csr operand b old))
    go true true = refl
    go true false = refl
    go false held = refl

-- mhartid can be read but not written
hart-same : (permit : Bool) (pc : ℕ) (t : Own) (w rd : ℕ)
    (op : CsrOp) (operand old : ℕ) (writes : Bool) →
    csr_done pc t w rd 0xF14 op operand writes (Some old)
    ≡ by_answer pc t w rd 0xF14 (answer_by permit op 0xF14 operand writes (Some old))
unfolding may_hold
hart-same permit pc t w rd op operand old true = refl
hart-same permit pc t w rd op operand old false = refl

-- slots, modes and regions, with a permit or without
shared-same : (permit : Bool) (pc : ℕ) (t : Own) (w rd csr : ℕ) (op : CsrOp)
    (operand value : ℕ) (writes : Bool) → is_shared csr ≡ true → (csr == csr_mhartid) ≡ false →
    csr_done pc t w rd csr op operand writes (if permit then Some value else None)
    ≡ by_answer pc t w rd csr (answer_by permit op csr operand writes (Some value))
shared-same true pc t w rd csr op operand value writes h m =
    done-same true pc t w rd csr op operand value writes (rw h refl) m
shared-same false pc t w rd csr op operand value writes h m = rw h refl

-- the defined execution of an access is the one by its result
pub answered : (permit : Bool) (thread pc : ℕ) (t : Own) (w rd csr : ℕ)
    (op : CsrOp) (operand : ℕ) (writes : Bool) (value : ℕ) →
    csr_access thread pc t w rd csr op operand writes (if permit then Some value else None)
    ≡ by_answer pc t w rd csr
    (answer_by permit op csr operand writes (csr_value thread (with_trap t.trap) csr (Some value)))
unfolding csr_access
answered permit thread pc t w rd csr op operand writes value =
    elim (eqb_tells csr 0x305) [
      | inl p ↦ rw p.1 (done-same permit pc t w rd 0x305 op operand t.trap.mtvec writes refl refl)
      | inr q1 ↦
          elim (eqb_tells csr 0x340) [
            | inl p ↦
                rw p.1
                (done-same permit pc t w rd 0x340 op operand t.trap.mscratch writes refl refl)
            | inr q2 ↦
                elim (eqb_tells csr 0x341) [
                  | inl p ↦
                      rw p.1
                      (done-same permit pc t w rd 0x341 op operand t.trap.mepc writes refl refl)
                  | inr q3 ↦
                      elim (eqb_tells csr 0x342) [
                        | inl p ↦
                            rw p.1 (done-same permit pc t w rd 0x342 op operand t.trap.mcause
                            writes refl refl)
                        | inr q4 ↦
                            elim (eqb_tells csr 0xF14) [
                              | inl p ↦ rw p.1 (hart-same permit pc t w rd op operand thread writes)
                              | inr q5 ↦
                                  rw (q1.0, q2.0, q3.0, q4.0, q5.0) (go (is_shared csr) refl q5.0)
                            ]
                      ]
                ]
          ]
    ]
  where
    go : (b : Bool) → is_shared csr ≡ b → (csr == csr_mhartid) ≡ false →
        csr_done pc t w rd csr op operand writes
        (if b then (if permit then Some value else None) else None) ≡ by_answer pc t w rd csr
        (answer_by permit op csr operand writes (if b then Some value else None))
    go true e m = shared-same permit pc t w rd csr op operand value writes e m
    go false e m = refl

-- a write changes only the thread's trap registers, and depends only on them
pub csr-timer : (t : Own) (csr value : ℕ) → t.timer ≡ (with_csr t csr value).timer
csr-timer t csr value =
    go (csr == csr_mtvec) (csr == csr_mscratch) (csr == csr_mepc) (csr == csr_mcause)
  where
    go : (a b c d : Bool) → t.timer ≡ (if a then record t { trap = record t.trap { mtvec = value } }
        else if b then record t { trap = record t.trap { mscratch = value } }
        else if c then record t { trap = record t.trap { mepc = value } }
        else if d then record t { trap = record t.trap { mcause = value } } else t).timer
    go true b c d = refl
    go false true c d = refl
    go false false true d = refl
    go false false false true = refl
    go false false false false = refl

pub csr-sleep : (t : Own) (csr value : ℕ) → t.sleep ≡ (with_csr t csr value).sleep
csr-sleep t csr value =
    go (csr == csr_mtvec) (csr == csr_mscratch) (csr == csr_mepc) (csr == csr_mcause)
  where
    go : (a b c d : Bool) → t.sleep ≡ (if a then record t { trap = record t.trap { mtvec = value } }
        else if b then record t { trap = record t.trap { mscratch = value } }
        else if c then record t { trap = record t.trap { mepc = value } }
        else if d then record t { trap = record t.trap { mcause = value } } else t).sleep
    go true b c d = refl
    go false true c d = refl
    go false false true d = refl
    go false false false true = refl
    go false false false false = refl

pub csr-trap : (t : Own) (csr value : ℕ) →
    (with_csr (with_trap t.trap) csr value).trap ≡ (with_csr t csr value).trap
csr-trap t csr value =
    go (csr == csr_mtvec) (csr == csr_mscratch) (csr == csr_mepc) (csr == csr_mcause)
  where
    go : (a b c d : Bool) →
        (let s = with_trap t.trap in if a then record s { trap = record s.trap { mtvec = value } }
        else if b then record s { trap = record s.trap { mscratch = value } }
        else if c then record s { trap = record s.trap { mepc = value } }
        else if d then record s { trap = record s.trap { mcause = value } } else s).trap
        ≡ (if a then record t { trap = record t.trap { mtvec = value } }
        else if b then record t { trap = record t.trap { mscratch = value } }
        else if c then record t { trap = record t.trap { mepc = value } }
        else if d then record t { trap = record t.trap { mcause = value } } else t).trap
    go true b c d = refl
    go false true c d = refl
    go false false true d = refl
    go false false false true = refl
    go false false false false = refl

-- slots and modes don't change the sleep moments
pub sched-sleep : (s : Sched) (csr value : ℕ) → (sched_after s csr (Some value)).sleep ≡ s.sleep
sched-sleep s csr value = go (csr == csr_slots) (csr == csr_modes)
  where
    go : (a b : Bool) → (if a then record s { slots = value }
        else if b
        then record s { modes = value }
        else s).sleep ≡ s.sleep
    go true b = refl
    go false true = refl
    go false false = refl

-- an access that writes leaves the units as a CSR instruction does
pub wrote_csr : (h g : Hart) (x : ExecResult) (d : Execution) (pc w rd csr value old : ℕ) →
    d ≡ csr_write pc (own_of h) w rd csr value old →
    x ≡ record {
      pc = plus pc 4;
      lag = redirect_lag;
      word = w;
      address = 0;
      effect = Some (Csr csr value rd old);
    } →
    g.timers.now ≡ h.timers.now → g.traps.now ≡ traps_after h.traps.now h.thread csr (Some value) →
    g.sched.now ≡ sched_after h.sched.now csr (Some value) →
    g.guard.now ≡ guard_after h.guard.now csr (Some value) → RefinesExecution h g x d
wrote_csr h g x d pc w rd csr value old d_is x_is timers traps sched guard =
    let t = own_of h in
    rw (d_is, x_is) (record {
      did = refl;
      units =
          left h g (csr_write pc t w rd csr value old)
          (timers ∙ timers_kept h
          ∙ ap (λ row. slice_set h.timers.now h.thread row) (csr-timer t csr value))
          (traps ∙ ap (λ row. slice_set h.traps.now h.thread row) (csr-trap t csr value))
          (sched
          ∙ ap (λ sleeps. record (sched_after h.sched.now csr (Some value)) { sleep = sleeps })
          (sched-sleep h.sched.now csr value ∙ sleep_kept h
          ∙ ap (λ moment. slice_set h.sched.now.sleep h.thread moment) (csr-sleep t csr value)))
          guard;
    })

-- a refused access changes nothing, so its trap is the instruction's
pub refused : (h k g : Hart) (x : ExecResult) (d : Execution) (pc w : ℕ) →
    d ≡ trapped pc (own_of h) w cause_illegal → k.thread ≡ h.thread → k.timers.now ≡ h.timers.now →
    k.traps.now ≡ h.traps.now → k.sched.now ≡ h.sched.now → k.guard.now ≡ h.guard.now →
    RefinesExecution k g x (trapped pc (own_of k) w cause_illegal) → RefinesExecution h g x d
refused h k g x d pc w d_is thread timers traps sched guard r =
    rw d_is (record {
      did =
          subst (λ (o : Own). abstract_result (trapped pc o w cause_illegal).own x
          ≡ trapped pc o w cause_illegal) own r.did;
      units =
          r.units ∙ ap₂ (λ (n : ℕ) (u : Units).
          units_after n (trapped pc (own_at n u) w cause_illegal) u) thread units;
    })
  where
    units : units_of k ≡ units_of h
    units = λ j. record { timers = timers j; traps = traps j; sched = sched j; guard = guard j }

    own : own_of k ≡ own_of h
    own = ap₂ own_at thread units

-- an access that reads changes no unit
pub read_csr : (h g : Hart) (x : ExecResult) (d : Execution) (pc w lag rd old : ℕ) →
    d ≡ write pc (own_of h) w redirect_lag rd old → lag ≡ redirect_lag →
    g.timers.now ≡ h.timers.now → g.traps.now ≡ h.traps.now → g.sched.now ≡ h.sched.now →
    g.guard.now ≡ h.guard.now → RefinesExecution h h x (write pc (own_of h) w lag rd old) →
    RefinesExecution h g x d
read_csr h g x d pc w lag rd old d_is lag_is timers traps sched guard r =
    let same : units_of g ≡ units_of h =
    λ j. record { timers = timers j; traps = traps j; sched = sched j; guard = guard j } in
    let read : RefinesExecution h h x d = rw (d_is, ← lag_is) r in
    record { did = read.did; units = same ∙ read.units }
