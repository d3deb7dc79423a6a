use Rattle.std.proofs.Common.{◌≡◌, vec_len}
use Rattle.fp_ports.specs.PluggedPorts.{rows_of}
use Rattle.machine.specs.Feeding.{fed_first}
use Rattle.machine.proofs.feeding.feed_inputs.Given as goal

abbrev pub invariant-loop-thread : goal.invariant-loop-thread
invariant-loop-thread g l =
    record {
      eight : vec_len l.ports ≡ 8;
      rows : rows_of (λ b. (goal.Port-dyn g (b.vtable, b.value)).latched b.value)
          (λ b. (goal.Port-dyn g (b.vtable, b.value)).word_at b.value) l.ports.items
          ≡ fed_first l.setup (rows_of (λ b. (goal.Port-dyn g (b.vtable, b.value)).latched b.value)
          (λ b. (goal.Port-dyn g (b.vtable, b.value)).word_at b.value) l.initial.ports.items)
          l.thread;
    }
