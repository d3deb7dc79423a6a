-- The result of E for a turn.
use Rattle.std.specs.Prelude.{◌≡◌, ℕ, ◌-◌, Bool, if◌then◌else◌, List, Option, Some, None}
use Rattle.core_model.specs.Delays.{cycles_to_e}
use Rattle.timer_unit.specs.Time.{time}
use Rattle.fp_ports.specs.PluggedPorts.{Row}
use Rattle.pipe_model.specs.declared.stage_registers.Held.{Held}
use Rattle.pipe_model.specs.declared.stage_registers.Decoded.{Decoded}
use Rattle.pipe_model.specs.declared.stage_registers.Executed.{Executed}
use Rattle.pipe_model.specs.declared.stage_registers.Redirect.{Redirect}
use Rattle.pipe_model.specs.Stages.{After, execute_stage}
use Rattle.pipeline_core.specs.declared.units.Units.{Units}
use Rattle.pipeline_core.specs.Abstraction.{abstract_control, abstract_state}
use Rattle.pipeline_core.specs.StageFacts.{ExecutedFits, RedirectFits}

-- the result of the execute stage for a turn in a cycle
abbrev pub after_execute : Units → ℕ → Held Decoded → After
after_execute u cycle d =
    execute_stage u.guard.size u.confined u.permit (time u.clock (cycle - cycles_to_e))
    (abstract_control u.sched u.guard u.timers u.traps) d

-- the redirect of a thread whose next turns are flushed
abbrev pub redirect_if : Bool → Redirect → Option Redirect
redirect_if flushes to = if flushes then Some to else None

-- E executes a turn in a cycle: the stage register and the redirect are those of the execute stage,
-- and of the units only the control changes
pub record Executes (before after : Units) (cycle : ℕ) (d : Held Decoded) (done : Held Executed)
    (to : Option Redirect) : Type 0 where
  pub e : done ≡ (after_execute before cycle d).e
  pub redirect : (after_execute before cycle d).redirect ≡ to
  pub units : (ports : List (Option Row)) → abstract_state after ports
      ≡ record (abstract_state before ports) { control = (after_execute before cycle d).control }
  pub fits : ExecutedFits done
  pub redirect_fits : RedirectFits to
