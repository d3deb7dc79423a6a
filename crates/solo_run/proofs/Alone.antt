-- A confined thread without a permit: the rights of its instructions, and their effects.
use Rattle.std.proofs.Common.{◌≡◌, ℕ, ◌<◌, ◌≤◌, ◌^◌, ◌%◌, Bool, true, false, ◌&&◌, Option}
use Rattle.std.proofs.Common.{Some, None, inl, inr, length, lit≤, refl, sym, ap, ap₂, ◌∙◌}
use Rattle.std.specs.Prelude.{if◌then◌else◌, ◌==◌, nat_le}
use Rattle.std.proofs.lemmas.Bool.Decides.{eqb_tells}
use Rattle.std.proofs.lemmas.List.{get_or-set_same}
use Rattle.rv_decode.specs.Lag.{redirect_lag}
use Rattle.rv_decode.specs.Table.{ins}
use Rattle.rv_decode.specs.declared.instruction.Ins.{Ins}
use Rattle.rv_decode.specs.declared.instruction.Ins.TheVariants as i
use Rattle.rv_exec.specs.TrapCauses.{cause_illegal}
use Rattle.rv_exec.specs.declared.outcome.Effect.TheVariants.{Nothing, Reg, Wait}
use Rattle.rv_exec.specs.declared.outcome.Outcome.{Outcome}
use Rattle.rv_exec.specs.Result.{result_of}
use Rattle.region_guard.specs.declared.access.Guard.{Guard}
use Rattle.region_guard.specs.Regions.{RegionKind, is_code, is_data, is_port, is_readable}
use Rattle.region_guard.specs.Regions.{is_writable, may_fetch, may_load, may_store}
use Rattle.core_model.specs.declared.own.Own.{Own}
use Rattle.core_model.specs.declared.own.CsrOp.{CsrOp}
use Rattle.core_model.specs.Thread.{Environment, Execution, reg_effect}
use Rattle.core_model.specs.Traps.{trapped, unless_trap}
use Rattle.core_model.specs.Outcomes.{load, store, branch, advance, write}
use Rattle.core_model.specs.Waiting.{delay, wait, or_armed}
use Rattle.core_model.specs.Csr.{is_shared, csr_update, may_hold}
use Rattle.core_model.specs.Csr.{legal_value, csr_write, csr_done, csr_access}
use Rattle.core_model.specs.Issue.{csr_op, csr_operand, csr_writes}
use Rattle.core_model.specs.Issue.{execute_untrapped, run_at, execute_in}
use Rattle.core_model.specs.View.{environment_by, kind_at}
use Rattle.core_model.specs.Viewed.{region_kinds}
use Rattle.timer_unit.specs.Time.{no_timer}
use Rattle.trap_unit.specs.Access.{guard_after}
use Rattle.trap_unit.specs.Rows.{no_trap}
use Rattle.hart_exec.specs.declared.hart.Hart.{Hart}
use Rattle.hart_exec.specs.declared.result.ExecResult.{ExecResult}
use Rattle.hart_exec.specs.Units.{RefinesExecution, Units, environment_of, abstract_result}
use Rattle.hart_exec.specs.Units.{guard_by, own_at, units_after, units_of}
use Rattle.solo_run.proofs.OwnStore.{kind-is}

same_fetch : (i Z regions : ℕ) → i < 8 → (pc : ℕ) → may_fetch i Z true regions pc
    ≡ (is_code Z pc && is_readable (kind_at Z (region_kinds i regions) pc))
unfolding may_fetch
same_fetch i Z regions h pc =
    ap (λ (st : RegionKind). is_code Z pc && is_readable st) (sym (kind-is i Z regions pc h))

same_load : (i Z iregions dregions : ℕ) → i < 8 → (address width : ℕ) →
    may_load i Z true iregions dregions address width
    ≡ (if is_code Z address then is_readable (kind_at Z (region_kinds i iregions) address)
    else if is_data Z address then is_readable (kind_at Z (region_kinds i dregions) address)
    else is_port address width)
unfolding may_load
same_load i Z iregions dregions h address width =
    ap₂ (λ (a b : RegionKind). if is_code Z address then is_readable a
    else if is_data Z address then is_readable b else is_port address width)
    (sym (kind-is i Z iregions address h)) (sym (kind-is i Z dregions address h))

same_store : (i Z dregions : ℕ) → i < 8 → (address width : ℕ) →
    may_store i Z dregions address width ≡ (if is_data Z address
    then is_writable (kind_at Z (region_kinds i dregions) address)
    else is_port address width)
unfolding may_store
same_store i Z dregions h address width =
    ap (λ (st : RegionKind). if is_data Z address then is_writable st else is_port address width)
    (sym (kind-is i Z dregions address h))

-- the rights by the guard are those by the kinds of the regions
asked_alone : (h : Hart) → h.thread < 8 → h.confined ≡ true → h.permit ≡ false →
    environment_of h ≡ environment_by h.thread h.guard.now.size
    (region_kinds h.thread h.guard.now.i) (region_kinds h.thread h.guard.now.d) h.time
unfolding environment_of environment_by
asked_alone h k confined permit = λ j. record {
  thread = h.thread;
  now = h.time;
  fetch = λ pc. fetches pc j;
  load = λ address width. loads address width j;
  store = λ address width. same_store h.thread h.guard.now.size h.guard.now.d k address width j;
  shared = λ csr. shared csr j;
}
  where
    fetches : (pc : ℕ) →
        may_fetch h.thread h.guard.now.size h.confined h.guard.now.i pc ≡ (is_code h.guard.now.size
        pc && is_readable (kind_at h.guard.now.size (region_kinds h.thread h.guard.now.i) pc))
    fetches pc =
        ap (λ (b : Bool). may_fetch h.thread h.guard.now.size b h.guard.now.i pc) confined
        ∙ same_fetch h.thread h.guard.now.size h.guard.now.i k pc

    loads : (address width : ℕ) →
        may_load h.thread h.guard.now.size h.confined h.guard.now.i h.guard.now.d address width
        ≡ (if is_code h.guard.now.size address
        then is_readable (kind_at h.guard.now.size (region_kinds h.thread h.guard.now.i) address)
        else if is_data h.guard.now.size address
        then is_readable (kind_at h.guard.now.size (region_kinds h.thread h.guard.now.d) address)
        else is_port address width)
    loads address width =
        ap (λ (b : Bool).
        may_load h.thread h.guard.now.size b h.guard.now.i h.guard.now.d address width) confined
        ∙ same_load h.thread h.guard.now.size h.guard.now.i h.guard.now.d k address width

    shared : (csr : ℕ) → (environment_of h).shared csr ≡ None
    shared csr = rw permit refl

-- the units after an instruction hold the thread's new state
row_after : (k : ℕ) (d : Execution) (u : Units) → k < length u.timers → k < length u.traps →
    k < length u.sched.sleep → own_at k (units_after k d u) ≡ d.own
row_after k d u timers traps sleeps = λ j. record {
  timer = get_or-set_same u.timers k d.own.timer no_timer timers j;
  trap = get_or-set_same u.traps k d.own.trap no_trap traps j;
  sleep = get_or-set_same u.sched.sleep k d.own.sleep 0 sleeps j;
}

-- an instruction keeps the regions, and its lag is at most three
abbrev Stays : Guard → Execution → Type 0
Stays g d = (guard_by d.effect g ≡ g) × (d.lag ≤ 3)

reg-stays : (g : Guard) (rd v : ℕ) → guard_by (Some (reg_effect rd v)) g ≡ g
reg-stays g rd v = go (rd == 0)
  where
    go : (b : Bool) → guard_by (Some (if b then Nothing else Reg rd v)) g ≡ g
    go true = refl
    go false = refl

load-stays : (g : Guard) (pc : ℕ) (t : Own) (w a : ℕ) (b : Bool) → Stays g (load pc t w a b)
unfolding load
load-stays g pc t w a true = (refl, lit≤ tt)
load-stays g pc t w a false = (refl, lit≤ tt)

store-stays : (g : Guard) (pc : ℕ) (t : Own) (w a width v : ℕ) (b : Bool) →
    Stays g (store pc t w a width v b)
unfolding store
store-stays g pc t w a width v true = (refl, lit≤ tt)
store-stays g pc t w a width v false = (refl, lit≤ tt)

branch-stays : (g : Guard) (pc : ℕ) (t : Own) (w : ℕ) (taken : Bool) (target : ℕ) →
    Stays g (branch pc t w taken target)
unfolding branch
branch-stays g pc t w true target = (refl, lit≤ tt)
branch-stays g pc t w false target = (refl, lit≤ tt)

delay-stays : (g : Guard) (now pc : ℕ) (t : Own) (w until : ℕ) → Stays g (delay now pc t w until)
unfolding delay
delay-stays g now pc t w until = go (nat_le until now)
  where
    go : (b : Bool) → Stays g (if b then advance pc t w 3 Nothing
        else record { pc = pc; own = t; lag = 3; word = w; address = 0; effect = None })
    go true = (refl, lit≤ tt)
    go false = (refl, lit≤ tt)

wait-stays : (g : Guard) (now pc : ℕ) (t : Own) (w until : ℕ) → Stays g (wait now pc t w until)
unfolding wait
wait-stays g now pc t w until = go (nat_le until now)
  where
    go : (b : Bool) → Stays g (if b then advance pc t w 3 Nothing
        else advance pc (record t { sleep = or_armed until t.timer.armed }) w 3 Wait)
    go true = (refl, lit≤ tt)
    go false = (refl, lit≤ tt)

done-stays : (g : Guard) (pc : ℕ) (t : Own) (w rd csr : ℕ) (op : CsrOp)
    (operand old : ℕ) (writes : Bool) → ((v : ℕ) → guard_after g csr (Some v) ≡ g) →
    Stays g (csr_done pc t w rd csr op operand writes (Some old))
done-stays g pc t w rd csr op operand old writes h =
    go writes (may_hold csr (csr_update op old operand))
  where
    go : (b held : Bool) → Stays g (if b
        then (if held then csr_write pc t w rd csr (legal_value csr (csr_update op old operand)) old
        else trapped pc t w cause_illegal)
        else write pc t w redirect_lag rd old)
    go true true = (h (legal_value csr (csr_update op old operand)), lit≤ tt)
    go true false = (refl, lit≤ tt)
    go false held = (reg-stays g rd old, lit≤ tt)

csr-stays : (g : Guard) (thread pc : ℕ) (t : Own) (w rd csr : ℕ) (op : CsrOp) (operand : ℕ)
    (writes : Bool) → Stays g (csr_access thread pc t w rd csr op operand writes None)
unfolding csr_access
csr-stays g thread pc t w rd csr op operand writes =
    elim (eqb_tells csr 0x305) [
      | inl p ↦ rw p.1 (done-stays g pc t w rd 0x305 op operand t.trap.mtvec writes (λ v. refl))
      | inr q1 ↦
          elim (eqb_tells csr 0x340) [
            | inl p ↦
                rw p.1 (done-stays g pc t w rd 0x340 op operand t.trap.mscratch writes (λ v. refl))
            | inr q2 ↦
                elim (eqb_tells csr 0x341) [
                  | inl p ↦
                      rw p.1
                      (done-stays g pc t w rd 0x341 op operand t.trap.mepc writes (λ v. refl))
                  | inr q3 ↦
                      elim (eqb_tells csr 0x342) [
                        | inl p ↦
                            rw p.1 (done-stays g pc t w rd 0x342 op operand t.trap.mcause
                            writes (λ v. refl))
                        | inr q4 ↦
                            elim (eqb_tells csr 0xF14) [
                              | inl p ↦
                                  rw p.1 (done-stays g pc t w rd 0xF14 op operand thread
                                  writes (λ v. refl))
                              | inr q5 ↦ rw (q1.0, q2.0, q3.0, q4.0, q5.0) (go (is_shared csr))
                            ]
                      ]
                ]
          ]
    ]
  where
    go : (b : Bool) → Stays g (csr_done pc t w rd csr op operand writes (if b then None else None))
    go true = (refl, lit≤ tt)
    go false = (refl, lit≤ tt)

untrapped-stays : (g : Guard) (a : Environment) (pc : ℕ) (t : Own) (w x y : ℕ) (o : Outcome)
    (n : Ins) → ((csr : ℕ) → a.shared csr ≡ None) → Stays g (execute_untrapped a pc t w x y o n)
unfolding execute_untrapped
untrapped-stays g a pc t w x y o (i.Lui rd imm) h = (reg-stays g rd o.value, lit≤ tt)
untrapped-stays g a pc t w x y o (i.Auipc rd imm) h = (reg-stays g rd o.value, lit≤ tt)
untrapped-stays g a pc t w x y o (i.Jal rd off) h = (reg-stays g rd o.value, lit≤ tt)
untrapped-stays g a pc t w x y o (i.Jalr rd rs1 imm) h = (reg-stays g rd o.value, lit≤ tt)
untrapped-stays g a pc t w x y o (i.Branch op rs1 rs2 off) h =
    branch-stays g pc t w o.taken o.target
untrapped-stays g a pc t w x y o (i.Load op rd rs1 imm) h = load-stays g pc t w o.address _
untrapped-stays g a pc t w x y o (i.Store op rs1 rs2 imm) h = store-stays g pc t w o.address _ _ _
untrapped-stays g a pc t w x y o (i.OpImm op rd rs1 imm) h = (reg-stays g rd o.value, lit≤ tt)
untrapped-stays g a pc t w x y o (i.Shift op rd rs1 amount) h = (reg-stays g rd o.value, lit≤ tt)
untrapped-stays g a pc t w x y o (i.Op op rd rs1 rs2) h = (reg-stays g rd o.value, lit≤ tt)
untrapped-stays g a pc t w x y o (i.Muldiv op rd rs1 rs2) h = (refl, lit≤ tt)
untrapped-stays g a pc t w x y o (i.Fence v) h = (refl, lit≤ tt)
untrapped-stays g a pc t w x y o i.Mret h = (refl, lit≤ tt)
untrapped-stays g a pc t w x y o (i.Csr op rd csr src) h =
    rw (h csr)
    (csr-stays g a.thread pc t w rd csr (csr_op op) (csr_operand op src x) (csr_writes op src))
untrapped-stays g a pc t w x y o (i.Gt rd) h = (reg-stays g rd (a.now % 2 ^ 32), lit≤ tt)
untrapped-stays g a pc t w x y o (i.Gth rd) h = (reg-stays g rd t.timer.high, lit≤ tt)
untrapped-stays g a pc t w x y o (i.Du rs1 rs2) h = delay-stays g a.now pc t w _
untrapped-stays g a pc t w x y o (i.Wu rs1 rs2) h = wait-stays g a.now pc t w _
untrapped-stays g a pc t w x y o (i.Ee rs1 rs2) h = (refl, lit≤ tt)
untrapped-stays g a pc t w x y o i.De h = (refl, lit≤ tt)
untrapped-stays g a pc t w x y o i.Ecall h = (refl, lit≤ tt)
untrapped-stays g a pc t w x y o i.Ebreak h = (refl, lit≤ tt)
untrapped-stays g a pc t w x y o (i.Illegal v) h = (refl, lit≤ tt)

run-stays : (g : Guard) (a : Environment) (pc : ℕ) (t : Own) (w x y : ℕ) (n : Ins) →
    ((csr : ℕ) → a.shared csr ≡ None) → Stays g (run_at a pc t w x y n)
unfolding run_at
run-stays g a pc t w x y n h = go (result_of n pc x y).trap
  where
    go : (trap : Option ℕ) →
        Stays g (unless_trap pc t w trap (execute_untrapped a pc t w x y (result_of n pc x y) n))
    go (Some cause) = (refl, lit≤ tt)
    go None = untrapped-stays g a pc t w x y (result_of n pc x y) n h

stays : (g : Guard) (a : Environment) (pc : ℕ) (t : Own) (expired : Bool) (w x y : ℕ) →
    ((csr : ℕ) → a.shared csr ≡ None) → Stays g (execute_in a pc t expired w x y)
unfolding execute_in
stays g a pc t true w x y h = (refl, lit≤ tt)
stays g a pc t false w x y h = go (a.fetch pc)
  where
    go : (b : Bool) → Stays g (if b then run_at a pc t w x y (ins w) else trapped pc t 0 1)
    go true = run-stays g a pc t w x y (ins w) h
    go false = (refl, lit≤ tt)

-- Without a permit every access to a configuration register is refused. So an instruction of such a
-- thread keeps the regions, and its lag is at most three.
without_permit : (h : Hart) → h.permit ≡ false → (csr : ℕ) → (environment_of h).shared csr ≡ None
unfolding environment_of
without_permit h permit csr = rw permit refl

pub guard_alone : (h g : Hart) (x : ExecResult) (pc : ℕ) (t : Own) (expired : Bool) (w p q : ℕ) →
    h.permit ≡ false →
    RefinesExecution h g x (execute_in (environment_of h) pc t expired w p q) →
    g.guard.now ≡ h.guard.now
guard_alone h g x pc t expired w p q permit r =
    ap (λ (u : Units). u.guard) r.units
    ∙ (stays h.guard.now (environment_of h) pc t expired w p q (without_permit h permit)).0

pub lag_alone : (h g : Hart) (x : ExecResult) (pc : ℕ) (t : Own) (expired : Bool) (w p q : ℕ) →
    h.permit ≡ false →
    RefinesExecution h g x (execute_in (environment_of h) pc t expired w p q) → x.lag ≤ 3
lag_alone h g x pc t expired w p q permit r =
    rw (ap (λ (d : Execution). d.lag) r.did)
    (stays h.guard.now (environment_of h) pc t expired w p q (without_permit h permit)).1

-- and its result is the definition's
pub did_alone : (h g : Hart) (x : ExecResult) (pc : ℕ) (t : Own) (expired : Bool) (w p q : ℕ) →
    h.thread < 8 → h.confined ≡ true → h.permit ≡ false → h.thread < length h.timers.now →
    h.thread < length h.traps.now → h.thread < length h.sched.now.sleep →
    RefinesExecution h g x (execute_in (environment_of h) pc t expired w p q) →
    abstract_result (own_at h.thread (units_of g)) x
    ≡ execute_in (environment_by h.thread h.guard.now.size (region_kinds h.thread h.guard.now.i)
    (region_kinds h.thread h.guard.now.d) h.time) pc t expired w p q
did_alone h g x pc t expired w p q k confined permit timers traps sleeps r =
    ap (λ (o : Own). abstract_result o x) (ap (own_at h.thread) r.units ∙ row_after h.thread
    (execute_in (environment_of h) pc t expired w p q) (units_of h) timers traps sleeps) ∙ r.did
    ∙ ap (λ (a : Environment). execute_in a pc t expired w p q) (asked_alone h k confined permit)
