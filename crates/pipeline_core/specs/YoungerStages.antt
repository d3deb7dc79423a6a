-- The results of D and F in a cycle.
use Rattle.std.specs.Prelude.{◌≡◌, ℕ, ◌-◌, List, Option}
use Rattle.core_model.specs.Delays.{cycles_to_d}
use Rattle.slot_scheduler.specs.declared.picking.Pick.{Pick}
use Rattle.timer_unit.specs.Time.{time}
use Rattle.pipe_model.specs.declared.stage_registers.Redirect.{Redirect}
use Rattle.pipe_model.specs.Stages.{decode_stage, fetch_stage, next_after_fetch}
use Rattle.pipeline_core.specs.declared.stages.Stages.{Stages}
use Rattle.pipeline_core.specs.declared.units.Units.{Units}
use Rattle.pipeline_core.specs.Turns.{held}

-- D and F take their turns in a cycle, with this pick and redirect. Before F the threads fetch next
-- at the pcs of `next`. The older stage registers stay.
pub record DecodesAndFetches (u : Units) (cycle : ℕ) (pick : Pick) (redirect : Option Redirect)
    (next : List ℕ) (before after : Stages) : Type 0 where
  pub d : held after.d ≡ decode_stage u.bank (held before.m) (held before.e) u.timers redirect
      (time u.clock (cycle - cycles_to_d)) (held before.f)
  pub f : held after.f ≡ fetch_stage u.guard.size u.imem redirect next pick
  pub pcs : after.next ≡ next_after_fetch redirect pick next
  pub e : after.e ≡ before.e
  pub m : after.m ≡ before.m
