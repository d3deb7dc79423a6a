use Rattle.std.proofs.Common.{◌≡◌, ℕ, suc, ◌*◌, ◌<◌, ◌≤◌, ◌^◌, List, Option, vec_len}
use Rattle.fp_ports.specs.PluggedPorts.{rows_of}
use Rattle.core_model.specs.World.{Start}
use Rattle.loop_runs.specs.Plants.{Response, responses_of}
use Rattle.loop_runs.specs.Looping.{Looping}
use Rattle.loop_runs.proofs.driver.sample_all.Given as goal

abbrev pub invariant-loop-thread : goal.invariant-loop-thread
invariant-loop-thread g l =
    let rows = rows_of (λ b. (goal.Port-dyn g (b.vtable, b.value)).latched b.value)
    (λ b. (goal.Port-dyn g (b.vtable, b.value)).word_at b.value) l.ports.items in
    let old = rows_of (λ b. (goal.Port-dyn g (b.vtable, b.value)).latched b.value)
    (λ b. (goal.Port-dyn g (b.vtable, b.value)).word_at b.value) l.initial.ports.items in
    let now =
    responses_of g.P.Plant.response l.plants.items in
    let before = responses_of g.P.Plant.response
    l.initial.plants.items in
    record {
      eight : vec_len l.ports ≡ 8;
      plants : vec_len l.plants ≡ 8;
      looping : (first : List (Option Response)) (every : ℕ) (s : Start) (n k : ℕ) →
          0 < every → n ≤ 2 ^ 64 → l.machine.at ≤ n → l.machine.at ≡ suc k * every →
          Looping first before every s n k 8 l.machine.at l.machine old →
          Looping first now every s n (suc k) l.thread l.machine.at l.machine rows;
    }
