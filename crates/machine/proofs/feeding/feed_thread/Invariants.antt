use Rattle.std.proofs.Common.{◌≡◌, take, vec_len}
use Rattle.fp_ports.specs.PluggedPorts.{rows_of}
use Rattle.machine.specs.Feeding.{fed_words}
use Rattle.machine.proofs.feeding.feed_thread.Given as goal

abbrev pub invariant-loop-input : goal.invariant-loop-input
invariant-loop-input g l =
    record {
      eight : vec_len l.ports ≡ 8;
      rows : rows_of (λ b. (goal.Port-dyn g (b.vtable, b.value)).latched b.value)
          (λ b. (goal.Port-dyn g (b.vtable, b.value)).word_at b.value) l.ports.items
          ≡ fed_words l.thread (rows_of (λ b. (goal.Port-dyn g (b.vtable, b.value)).latched b.value)
          (λ b. (goal.Port-dyn g (b.vtable, b.value)).word_at b.value) l.initial.ports.items)
          (take l.input-index l.inputs);
    }
