use Rattle.std.proofs.Common.{◌≡◌, vec_len}
use Rattle.fp_ports.specs.PluggedPorts.{rows_of}
use Rattle.loop_runs.specs.FedRuns.{AllForgot}
use Rattle.loop_runs.proofs.feeding.forget_past.Given as goal

abbrev pub invariant-loop-thread : goal.invariant-loop-thread
invariant-loop-thread g l =
    let rows = rows_of (λ b. (goal.Port-dyn g (b.vtable, b.value)).latched b.value)
    (λ b. (goal.Port-dyn g (b.vtable, b.value)).word_at b.value) l.ports.items in
    let old = rows_of (λ b. (goal.Port-dyn g (b.vtable, b.value)).latched b.value)
    (λ b. (goal.Port-dyn g (b.vtable, b.value)).word_at b.value) l.initial.ports.items in
    record {
      eight : vec_len l.ports ≡ 8;
      forgot : AllForgot l.first old rows;
    }
