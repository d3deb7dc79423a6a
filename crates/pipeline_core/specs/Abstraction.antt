-- Abstraction functions of the pipeline and the units.
use Rattle.std.specs.Prelude.{List, Option}
use Rattle.fp_ports.specs.PluggedPorts.{Row}
use Rattle.rv_exec.specs.declared.outcome.Event.{Event}
use Rattle.region_guard.specs.declared.access.Guard.{Guard}
use Rattle.slot_scheduler.specs.declared.picking.Sched.{Sched}
use Rattle.timer_unit.specs.declared.row.Timer.{Timer}
use Rattle.core_model.specs.declared.own.Trapping.{Trapping}
use Rattle.core_model.specs.World.{Registers}
use Rattle.pipe_model.specs.declared.stage_registers.Held.{Held}
use Rattle.pipe_model.specs.Stages.{StageRegisters, Control, State, Ticked}
use Rattle.pipe_model.specs.declared.stage_registers.Written.{Written}
use Rattle.pipeline_core.specs.declared.pipe.Pipe.{Pipe}
use Rattle.pipeline_core.specs.declared.stages.Stages.{Stages}
use Rattle.pipeline_core.specs.Turns.{held}
use Rattle.pipeline_core.specs.declared.units.Units.{Units}

-- the stage registers, and the pc that each thread fetches next
abbrev pub abstract_stages : Pipe → StageRegisters
abstract_stages p = record { next = p.next; f = p.f; d = p.d; e = p.e; m = p.m; w = p.w }

-- the next pcs and the stage registers as the stages use them, with a turn in w
abbrev pub registers_in : Stages → Held Written → StageRegisters
registers_in s w =
    record { next = s.next; f = held s.f; d = held s.d; e = held s.e; m = held s.m; w = w }

-- the configuration registers
abbrev pub abstract_registers : Sched → Guard → Registers
abstract_registers s g = record { slots = s.slots; modes = s.modes; dregions = g.d; iregions = g.i }

-- the state that the execute stage reads and writes
abbrev pub abstract_control : Sched → Guard → List Timer → List Trapping → Control
abstract_control s g timers traps =
    record { registers = abstract_registers s g; timers = timers; traps = traps; sleeps = s.sleep }

-- the contents of the units, with the ports
abbrev pub abstract_state : Units → List (Option Row) → State
abstract_state u ports =
    record {
      bank = u.bank;
      i_words = u.imem;
      d_words = u.dmem;
      control = abstract_control u.sched u.guard u.timers u.traps;
      last = u.scheduler;
      period = u.clock;
      size = u.guard.size;
      confined = u.confined;
      permit = u.permit;
      ports = ports;
    }

-- the state after a cycle, and the event that the cycle returned
abbrev pub ticked_with : StageRegisters → Units → List (Option Row) → Option Event → Ticked
ticked_with p u ports event =
    record { stage_registers = p; state = abstract_state u ports; event = event }

abbrev pub abstract_ticked : Pipe → Units → List (Option Row) → Option Event → Ticked
abstract_ticked p u ports event = ticked_with (abstract_stages p) u ports event
