-- The issue that retires in a cycle, and its event.
use Rattle.std.specs.Prelude.{ℕ, ◌-◌, Option}
use Rattle.rv_exec.specs.declared.outcome.Event.{Event}
use Rattle.core_model.specs.Delays.{cycles_to_w}
use Rattle.pipe_model.specs.declared.stage_registers.Stored.{Stored}
use Rattle.pipe_model.specs.Stages.{retired_event}
use Rattle.pipeline_core.specs.declared.retiring.Retired.{Retired}
use Rattle.pipeline_core.specs.declared.stage_register.StageRegister.{StageRegister}
use Rattle.pipeline_core.specs.Turns.{held}

-- the event of an issue
abbrev pub event_of : Retired → Event
event_of r = record {
  cycle = r.cycle;
  thread = r.thread;
  pc = r.pc;
  word = r.word;
  effect = r.effect.now;
}

-- the event that retires in a cycle, from the turn in m before it
abbrev pub retired_in : ℕ → StageRegister Stored → Option Event
retired_in cycle m = retired_event (cycle - cycles_to_w) (held m)
