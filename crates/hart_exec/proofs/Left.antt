-- The units after an instruction.
use Rattle.std.proofs.Common.{◌≡◌, ℕ, Option, Some, None}
use Rattle.std.proofs.Common.{Bool, true, false, refl, sym}
use Rattle.std.specs.Prelude.{slice_set, if◌then◌else◌, ◌==◌}
use Rattle.std.proofs.lemmas.List.{set-get_or}
use Rattle.rv_exec.specs.declared.outcome.Effect.{Effect}
use Rattle.rv_exec.specs.declared.outcome.Effect.TheVariants.{Nothing, Reg, Store, Csr, Trap, Wait}
use Rattle.region_guard.specs.declared.access.Guard.{Guard}
use Rattle.slot_scheduler.specs.declared.picking.Sched.{Sched}
use Rattle.core_model.specs.declared.own.Own.{Own}
use Rattle.core_model.specs.Thread.{Execution, reg_effect}
use Rattle.hart_exec.specs.declared.hart.Hart.{Hart}
use Rattle.hart_exec.specs.declared.result.ExecResult.{ExecResult}
use Rattle.hart_exec.specs.Units.{RefinesInPlace, abstract_result, guard_by}
use Rattle.hart_exec.specs.Units.{own_of, sched_by, units_after, units_of}

-- an effect that is no write of a control and status register
abbrev pub IsQuiet : Option Effect → Type 0
IsQuiet (Some (Csr csr value rd old)) = ⊥
IsQuiet _ = Unit {0}

pub quiet-sched : (e : Option Effect) (s : Sched) → IsQuiet e → sched_by e s ≡ s
quiet-sched None s h = refl
quiet-sched (Some Nothing) s h = refl
quiet-sched (Some (Reg rd value)) s h = refl
quiet-sched (Some (Store address size value)) s h = refl
quiet-sched (Some (Csr csr value rd old)) s h = absurd h
quiet-sched (Some (Trap cause target)) s h = refl
quiet-sched (Some Wait) s h = refl

pub quiet-guard : (e : Option Effect) (g : Guard) → IsQuiet e → guard_by e g ≡ g
quiet-guard None g h = refl
quiet-guard (Some Nothing) g h = refl
quiet-guard (Some (Reg rd value)) g h = refl
quiet-guard (Some (Store address size value)) g h = refl
quiet-guard (Some (Csr csr value rd old)) g h = absurd h
quiet-guard (Some (Trap cause target)) g h = refl
quiet-guard (Some Wait) g h = refl

pub reg-quiet : (rd value : ℕ) → IsQuiet (Some (reg_effect rd value))
reg-quiet rd value = go (rd == 0)
  where
    go : (b : Bool) → IsQuiet (Some (if b then Nothing else Reg rd value))
    go true = tt
    go false = tt

-- only the thread's own state changes in the units
pub left : (h g : Hart) (d : Execution) →
    g.timers.now ≡ slice_set h.timers.now h.thread d.own.timer →
    g.traps.now ≡ slice_set h.traps.now h.thread d.own.trap →
    g.sched.now ≡ (let s = sched_by d.effect h.sched.now in
    record s { sleep = slice_set h.sched.now.sleep h.thread d.own.sleep }) →
    g.guard.now ≡ guard_by d.effect h.guard.now →
    units_of g ≡ units_after h.thread d (units_of h)
left h g d timers traps sched guard =
    λ j. record { timers = timers j; traps = traps j; sched = sched j; guard = guard j }

pub timers_kept : (h : Hart) → h.timers.now ≡ slice_set h.timers.now h.thread (own_of h).timer
timers_kept h = sym (set-get_or h.timers.now h.thread _)

pub traps_kept : (h : Hart) → h.traps.now ≡ slice_set h.traps.now h.thread (own_of h).trap
traps_kept h = sym (set-get_or h.traps.now h.thread _)

pub sleep_kept : (h : Hart) →
    h.sched.now.sleep ≡ slice_set h.sched.now.sleep h.thread (own_of h).sleep
sleep_kept h = sym (set-get_or h.sched.now.sleep h.thread _)

-- the consequences of a quiet effect
pub sched_kept : (h : Hart) (e : Option Effect) → IsQuiet e →
    h.sched.now ≡ (let s = sched_by e h.sched.now in
    record s { sleep = slice_set h.sched.now.sleep h.thread (own_of h).sleep })
sched_kept h e q = rw (quiet-sched e h.sched.now q, set-get_or h.sched.now.sleep h.thread _) refl

pub in_place : (x : ExecResult) (d : Own → Execution) →
    ((own : Own) → abstract_result own x ≡ d own) → IsQuiet x.effect → RefinesInPlace x d
in_place x d same quiet h =
    let is : abstract_result (own_of h) x ≡ d (own_of h) = same (own_of h) in
    record {
      did = rw (← is) refl;
      units =
          rw (← is) (left h h (abstract_result (own_of h) x) (timers_kept h) (traps_kept h)
          (sched_kept h x.effect quiet) (sym (quiet-guard x.effect h.guard.now quiet)));
    }
