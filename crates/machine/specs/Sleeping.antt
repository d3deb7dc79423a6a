-- Cycles with no thread awake and an empty pipeline.
use Rattle.std.specs.Prelude.{◌≡◌, ℕ, ◌<◌, ◌≤◌, false, List, Option, None}
use Rattle.fp_ports.specs.PluggedPorts.{Row}
use Rattle.slot_scheduler.specs.declared.picking.Sched.{Sched}
use Rattle.slot_scheduler.specs.Picking.{is_awake}
use Rattle.timer_unit.specs.Time.{time}
use Rattle.core_model.specs.World.{Start, sched_by}
use Rattle.pipe_model.specs.Stages.{StageRegisters, State, Ticked, step}
use Rattle.pipe_model.specs.PipelineLaws.{empty}
use Rattle.machine.specs.declared.state.Machine.{Machine}
use Rattle.machine.specs.Observing.{retires}
use Rattle.machine.specs.WorldRelation.{RefinesWith}

-- no thread is awake at a time
abbrev pub NobodyAwake : Sched → ℕ → Type 0
NobodyAwake s now = (thread : ℕ) → thread < 8 → is_awake s now thread ≡ false

-- the result of an idle cycle: an empty pipeline, unchanged units, and no event
abbrev pub idle_tick : List ℕ → State → Ticked
idle_tick next u = record { stage_registers = empty next; state = u; event = None }

-- a cycle of an empty pipeline with no thread awake is idle
abbrev pub SleepsOn : Type 0
SleepsOn =
    (next : List ℕ) (u : State) (c : ℕ) →
    NobodyAwake (sched_by u.control.registers u.control.sleeps) (time u.period c) →
    step (empty next) u c ≡ idle_tick next u

-- The machine and the ports refine the machine's current cycle, and no event retired in the cycles
-- from c to it. The machine is taken with these stage registers.
pub record PassedOverWith (s : Start) (c n : ℕ) (p : StageRegisters) (m : Machine)
    (ports : List (Option Row)) : Type 0 where
  pub refines : RefinesWith s m.at n p m ports
  pub quiet : (k : ℕ) → c ≤ k → k < m.at → retires s k ≡ None
