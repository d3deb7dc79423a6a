use Rattle.std.proofs.Common.{◌≤◌}
use Rattle.std.specs.Io.KnownBytes.{Appends}
use Rattle.fp_ports.specs.PluggedPorts.{rows_of}
use Rattle.machine.specs.Fields.{lines_before}
use Rattle.pipeline_core.specs.Abstraction.{abstract_stages, abstract_state}
use Rattle.machine.proofs.state.Machine.put_lines.Given as goal

abbrev pub invariant-loop-number : goal.invariant-loop-number
invariant-loop-number g l =
    let rows = rows_of (λ b. (goal.Port-dyn g (b.vtable, b.value)).latched b.value)
    (λ b. (goal.Port-dyn g (b.vtable, b.value)).word_at b.value) l.ports.items in
    record {
      put : Appends (g.K.Sink.taken l.initial.out) (g.K.Sink.taken l.out) (lines_before
          (abstract_stages l.self.pipe) (abstract_state l.self.units rows) l.self.at l.number);
      counted : g.K.Sink.faults l.initial.out ≤ g.K.Sink.faults l.out;
    }
