use Rattle.std.proofs.Common.{◌≡◌, vec_len}
use Rattle.std.specs.Prelude.{None, replicate}
use Rattle.fp_ports.specs.PluggedPorts.{rows_of}
use Rattle.selfrun.proofs.running.no_ports.Given as goal

abbrev pub invariant-loop-thread : goal.invariant-loop-thread
invariant-loop-thread g l = record {
  eight : vec_len l.ports ≡ l._thread;
  rows : rows_of (λ b. (goal.Port-dyn g (b.vtable, b.value)).latched b.value)
      (λ b. (goal.Port-dyn g (b.vtable, b.value)).word_at b.value) l.ports.items
      ≡ replicate l._thread None;
}
