use Rattle.std.proofs.Common.{◌≡◌, ℕ, ◌<◌, ◌≤◌, ◌^◌, vec_len}
use Rattle.fp_ports.specs.PluggedPorts.{rows_of}
use Rattle.core_model.specs.World.{Start}
use Rattle.machine.specs.WorldRelation.{Refines}
use Rattle.loop_runs.specs.Plants.{responses_of}
use Rattle.loop_runs.specs.Looping.{Looping}
use Rattle.loop_runs.proofs.driver.begin_all.Given as goal

abbrev pub invariant-loop-thread : goal.invariant-loop-thread
invariant-loop-thread g l =
    let rows = rows_of (λ b. (goal.Port-dyn g (b.vtable, b.value)).latched b.value)
    (λ b. (goal.Port-dyn g (b.vtable, b.value)).word_at b.value) l.ports.items in
    let old = rows_of (λ b. (goal.Port-dyn g (b.vtable, b.value)).latched b.value)
    (λ b. (goal.Port-dyn g (b.vtable, b.value)).word_at b.value) l.initial.ports.items in
    let first =
    responses_of g.P.Plant.response l.plants.items in
    record {
      eight : vec_len l.ports ≡ 8;
      looping : (every : ℕ) (s : Start) (n : ℕ) → 0 < every →
          n ≤ 2 ^ 64 → Refines s 0 n l.machine old →
          Looping first first every s n 0 l.thread l.machine.at l.machine rows;
    }
