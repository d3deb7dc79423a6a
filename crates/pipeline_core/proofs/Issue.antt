-- The stage after an executed issue.
use Rattle.std.proofs.Common.{◌≡◌, ◌==◌, ℕ, Bool, true, false, if◌then◌else◌}
use Rattle.std.proofs.Common.{Some, None, inl, inr, refl, ap, subst, ◌∙◌}
use Rattle.std.specs.Prelude.{Option, slice_set}
use Rattle.std.proofs.lemmas.Bool.Decides.{eqb_tells}
use Rattle.pipe_model.specs.declared.stage_registers.Redirect.{Redirect}
use Rattle.pipe_model.specs.declared.stage_registers.Flush.{Flush}
use Rattle.pipe_model.specs.declared.stage_registers.Flush.TheVariants.{Decode, DecodeAndFetch}
use Rattle.rv_exec.specs.declared.outcome.Effect.{Effect}
use Rattle.rv_exec.specs.declared.outcome.Effect.TheVariants.{Nothing, Reg, Store, Csr, Trap, Wait}
use Rattle.region_guard.specs.declared.access.Guard.{Guard}
use Rattle.slot_scheduler.specs.declared.picking.Sched.{Sched}
use Rattle.core_model.specs.Thread.{Environment, Execution, no_own}
use Rattle.core_model.specs.Issue.{execute_in}
use Rattle.core_model.specs.World.{registers_after}
use Rattle.hart_exec.specs.declared.hart.Hart.{Hart}
use Rattle.hart_exec.specs.declared.result.ExecResult.{ExecResult}
use Rattle.hart_exec.specs.Units.{RefinesExecution, Units, environment_of, abstract_result}
use Rattle.hart_exec.specs.Units.{guard_by, own_of, sched_by, units_after, units_of}
use Rattle.pipe_model.specs.declared.stage_registers.Decoded.{Decoded}
use Rattle.pipe_model.specs.declared.stage_registers.Executed.{Executed}
use Rattle.pipe_model.specs.declared.stage_registers.Held.{Held}
use Rattle.pipe_model.specs.declared.stage_registers.Held.TheVariants.{Issue}
use Rattle.pipe_model.specs.Stages.{After, Control, control_after}
use Rattle.pipe_model.specs.Stages.{executed_of, executes, own_in, redirect_of}
use Rattle.pipeline_core.specs.Abstraction.{abstract_control, abstract_registers}
use Rattle.pipeline_core.specs.Executing.{Executes}
use Rattle.pipeline_core.specs.declared.units.Units.{Units as CoreUnits}

-- the redirect of a thread whose next turns are flushed
pub redirecting : (plain late : Bool) (k pc : ℕ) (flush : Flush) →
    Some flush ≡ (if plain then None else Some (if late then Decode else DecodeAndFetch)) →
    let wanted : Redirect =
    record { thread = k; pc = pc; flush = if late then Decode else DecodeAndFetch } in
    let to : Redirect = record { thread = k; pc = pc; flush = flush } in
    (if plain then None else Some wanted) ≡ Some to
redirecting true late k pc flush h = cc
redirecting false late k pc flush h = cc

-- slots, modes and regions after an effect
pub registers-by : (e : Option Effect) (s : Sched) (g : Guard) →
    abstract_registers (sched_by e s) (guard_by e g) ≡ registers_after e (abstract_registers s g)
registers-by None s g = refl
registers-by (Some Nothing) s g = refl
registers-by (Some (Reg rd value)) s g = refl
registers-by (Some (Store address size value)) s g = refl
registers-by (Some (Csr csr value rd old)) s g =
    elim (eqb_tells csr 0x7C0) [
      | inl p ↦ rw p.1 refl
      | inr q0 ↦
          elim (eqb_tells csr 0x7C1) [
            | inl p ↦ rw p.1 refl
            | inr q1 ↦
                elim (eqb_tells csr 0x7C2) [
                  | inl p ↦ rw p.1 refl
                  | inr q2 ↦
                      elim (eqb_tells csr 0x7C3) [
                        | inl p ↦ rw p.1 refl
                        | inr q3 ↦ rw (q0.0, q1.0, q2.0, q3.0) refl
                      ]
                ]
          ]
    ]
registers-by (Some (Trap cause target)) s g = refl
registers-by (Some Wait) s g = refl

abbrev pub control_of : Units → Control
control_of u = abstract_control u.sched u.guard u.timers u.traps

-- an instruction changes the control as it changes the units
pub controls : (k : ℕ) (d : Execution) (u : Units) →
    control_of (units_after k d u) ≡ control_after k d (control_of u)
controls k d u = λ j. record {
  registers = registers-by d.effect u.sched u.guard j;
  timers = slice_set u.timers k d.own.timer;
  traps = slice_set u.traps k d.own.trap;
  sleeps = slice_set u.sched.sleep k d.own.sleep;
}

-- an executed instruction leaves the state that the execute stage defines
pub issue_after : (h g : Hart) (done : ExecResult) (x : Decoded) (a : Environment) →
    environment_of h ≡ a →
    RefinesExecution h g done
    (execute_in (environment_of h) x.pc (own_of h) x.expired x.word x.a x.b) →
    let left : After = record {
      e = Issue h.thread (executed_of x (abstract_result no_own done));
      control = control_of (units_of g);
      redirect = redirect_of h.thread (abstract_result no_own done);
    } in
    left ≡ executes h.thread x (control_of (units_of h))
    (execute_in a x.pc (own_in (control_of (units_of h)) h.thread) x.expired x.word x.a x.b)
issue_after h g done x a same r =
    rw (← same) (λ j. record {
      e = Issue h.thread (executed_of x (r.did j));
      control = controlled_by j;
      redirect = redirect_of h.thread (r.did j);
    })
  where
    d : Execution
    d = execute_in (environment_of h) x.pc (own_of h) x.expired x.word x.a x.b

    controlled_by : control_of (units_of g) ≡ control_after h.thread d (control_of (units_of h))
    controlled_by = ap control_of r.units ∙ controls h.thread d (units_of h)

-- and the size of the scratchpads stays
guard-size : (e : Option Effect) (g : Guard) → (guard_by e g).size ≡ g.size
guard-size None g = refl
guard-size (Some Nothing) g = refl
guard-size (Some (Reg rd value)) g = refl
guard-size (Some (Store address size value)) g = refl
guard-size (Some (Csr csr value rd old)) g = go (csr == 0x7C2) (csr == 0x7C3)
  where
    go : (a b : Bool) →
        (if a then record g { d = value } else if b then record g { i = value } else g).size
        ≡ g.size
    go true b = refl
    go false true = refl
    go false false = refl
guard-size (Some (Trap cause target)) g = refl
guard-size (Some Wait) g = refl

pub size_after : (h g : Hart) (done : ExecResult) (d : Execution) → RefinesExecution h g done d →
    g.guard.now.size ≡ h.guard.now.size
size_after h g done d r = ap (λ (u : Units). u.guard.size) r.units ∙ guard-size d.effect h.guard.now

-- an execution on units that are equal to others
pub executes_from : {before same after : CoreUnits} {cycle : ℕ} {d : Held Decoded}
    {e : Held Executed} {to : Option Redirect} → before ≡ same →
    Executes before after cycle d e to → Executes same after cycle d e to
executes_from {before} {same} {after} {cycle} {d} {e} {to} equal done =
    subst (λ (u : CoreUnits). Executes u after cycle d e to) equal done
