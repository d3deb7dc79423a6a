-- The units that an instruction of a thread reads and changes.
use Rattle.std.specs.Prelude.{◌≡◌, ℕ, if◌then◌else◌, List}
use Rattle.std.specs.Prelude.{slice_index_or, slice_set, Option, Some, None}
use Rattle.rv_exec.specs.declared.outcome.Effect.{Effect}
use Rattle.rv_exec.specs.declared.outcome.Effect.TheVariants.{Csr}
use Rattle.region_guard.specs.declared.access.Guard.{Guard}
use Rattle.region_guard.specs.Regions.{may_fetch, may_load, may_store}
use Rattle.slot_scheduler.specs.declared.picking.Sched.{Sched}
use Rattle.timer_unit.specs.declared.row.Timer.{Timer}
use Rattle.timer_unit.specs.Time.{timer_of}
use Rattle.core_model.specs.declared.own.Own.{Own}
use Rattle.core_model.specs.declared.own.Trapping.{Trapping}
use Rattle.core_model.specs.Thread.{Environment, Execution}
use Rattle.trap_unit.specs.Access.{shared_value, sched_after, guard_after}
use Rattle.trap_unit.specs.Rows.{trap_of}
use Rattle.hart_exec.specs.declared.hart.Hart.{Hart}
use Rattle.hart_exec.specs.declared.result.ExecResult.{ExecResult}

-- the units as plain values
pub record Units : Type 0 where
  pub timers : List Timer
  pub traps : List Trapping
  pub sched : Sched
  pub guard : Guard

abbrev pub units_of : Hart → Units
units_of h =
    record { timers = h.timers.now; traps = h.traps.now; sched = h.sched.now; guard = h.guard.now }

-- a thread's state in the units
abbrev pub own_at : ℕ → Units → Own
own_at k u = record {
  timer = timer_of u.timers k;
  trap = trap_of u.traps k;
  sleep = slice_index_or u.sched.sleep k 0;
}

abbrev pub own_of : Hart → Own
own_of h = own_at h.thread (units_of h)

-- the rights of the thread's instruction, by the current units
unfoldable pub environment_of : Hart → Environment
environment_of h =
    record {
      thread = h.thread;
      now = h.time;
      fetch = λ pc. may_fetch h.thread h.guard.now.size h.confined h.guard.now.i pc;
      load = λ address width.
          may_load h.thread h.guard.now.size h.confined h.guard.now.i h.guard.now.d address width;
      store = λ address width. may_store h.thread h.guard.now.size h.guard.now.d address width;
      shared = λ csr. if h.permit then Some (shared_value h.sched.now h.guard.now csr) else None;
    }

-- slots and modes, and the regions, after an effect
abbrev pub sched_by : Option Effect → Sched → Sched
sched_by (Some (Csr csr value rd old)) s = sched_after s csr (Some value)
sched_by _ s = s

abbrev pub guard_by : Option Effect → Guard → Guard
guard_by (Some (Csr csr value rd old)) g = guard_after g csr (Some value)
guard_by _ g = g

-- the units after an instruction of thread k
abbrev pub units_after : ℕ → Execution → Units → Units
units_after k d u =
    record {
      timers = slice_set u.timers k d.own.timer;
      traps = slice_set u.traps k d.own.trap;
      sched = record (sched_by d.effect u.sched) { sleep = slice_set u.sched.sleep k d.own.sleep };
      guard = guard_by d.effect u.guard;
    }

-- an executed instruction as an `Execution`, with the thread's state in the units after it
abbrev pub abstract_result : Own → ExecResult → Execution
abstract_result own x =
    record {
      pc = x.pc;
      own = own;
      lag = x.lag;
      word = x.word;
      address = x.address;
      effect = x.effect;
    }

-- an executed instruction refines the defined one, in its result and in the units after it
pub record RefinesExecution (before after : Hart) (x : ExecResult) (d : Execution) : Type 0 where
  pub did : abstract_result d.own x ≡ d
  pub units : units_of after ≡ units_after before.thread d (units_of before)

-- it does so and changes no unit, whatever the units are
abbrev pub RefinesInPlace : ExecResult → (Own → Execution) → Type 0
RefinesInPlace x d = (h : Hart) → RefinesExecution h h x (d (own_of h))

-- the same thread, time and rights, with references to the same units; the content of a unit may
-- differ
abbrev pub Holds : Hart → Hart → Type 0
Holds a b =
    (b.thread ≡ a.thread) × (b.time ≡ a.time) × (b.confined ≡ a.confined) × (b.permit ≡ a.permit)
    × (b.guard.ghost_name ≡ a.guard.ghost_name) × (b.sched.ghost_name ≡ a.sched.ghost_name)
    × (b.timers.ghost_name ≡ a.timers.ghost_name) × (b.traps.ghost_name ≡ a.traps.ghost_name)
