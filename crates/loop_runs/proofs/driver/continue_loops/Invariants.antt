use Rattle.std.proofs.Common.{◌≡◌, ℕ, ◌+◌, ◌*◌, ◌≤◌, ◌^◌, List, Option, vec_len}
use Rattle.fp_ports.specs.PluggedPorts.{rows_of}
use Rattle.core_model.specs.World.{Start}
use Rattle.loop_runs.specs.Plants.{Response, responses_of}
use Rattle.loop_runs.specs.Looping.{HasLooped}
use Rattle.loop_runs.proofs.driver.continue_loops.Given as goal

abbrev pub invariant-loop-step : goal.invariant-loop-step
invariant-loop-step g l =
    let rows = rows_of (λ b. (goal.Port-dyn g (b.vtable, b.value)).latched b.value)
    (λ b. (goal.Port-dyn g (b.vtable, b.value)).word_at b.value) l.ports.items in
    let old = rows_of (λ b. (goal.Port-dyn g (b.vtable, b.value)).latched b.value)
    (λ b. (goal.Port-dyn g (b.vtable, b.value)).word_at b.value) l.initial.ports.items in
    let now =
    responses_of g.P.Plant.response l.plants.items in
    let before = responses_of g.P.Plant.response
    l.initial.plants.items in
    record {
      eight : vec_len l.ports ≡ 8;
      plants : vec_len l.plants ≡ 8;
      counted : g.K.Sink.faults l.initial.out ≤ g.K.Sink.faults l.out;
      at : l.machine.at ≡ l.initial.machine.at + l._step * l.every;
      looped : (first : List (Option Response)) (s : Start) (n k : ℕ) (contents : Option (List ℕ)) →
          n ≤ 2 ^ 64 → l.initial.machine.at + l.steps * l.every ≤ n →
          l.initial.machine.at ≡ k * l.every → HasLooped first before l.every s n k 8
          l.initial.machine.at l.thread l.initial.machine old contents (g.K.Sink.taken
          l.initial.out) →
          HasLooped first now l.every s n (k + l._step) 8 l.machine.at l.thread l.machine
          rows contents
          (g.K.Sink.taken l.out);
    }
