use Rattle.std.proofs.Common.{◌≡◌, ℕ, ◌+◌, ◌-◌, ◌≤◌, List, Option, vec_len}
use Rattle.fp_ports.specs.PluggedPorts.{rows_of}
use Rattle.core_model.specs.World.{Start}
use Rattle.machine.specs.Running.{IsSameRun, KnowsPorts, Runs}
use Rattle.machine.specs.WorldRelation.{AreLeft}
use Rattle.machine.proofs.run.Run.run_to.Given as goal

abbrev pub invariant-loop-self : goal.invariant-loop-self
invariant-loop-self g l =
    let rows = rows_of (λ b. (goal.Port-dyn g (b.vtable, b.value)).latched b.value)
    (λ b. (goal.Port-dyn g (b.vtable, b.value)).word_at b.value) l.ports.items in
    let start = rows_of (λ b. (goal.Port-dyn g (b.vtable, b.value)).latched b.value)
    (λ b. (goal.Port-dyn g (b.vtable, b.value)).word_at b.value) l.initial.ports.items in
    record {
      within : l.self.machine.now.at ≤ l.end;
      eight : vec_len l.ports ≡ 8;
      counted : g.K.Sink.faults l.initial.out ≤ g.K.Sink.faults l.out;
      words : AreLeft start rows;
      same : IsSameRun l.initial.self l.self;
      known : KnowsPorts l.self;
      runs : (s : Start) (c n : ℕ) (first : _) (prior : Option (List ℕ)) → l.end ≤ n + 3 →
          Runs g.O.Observer.acts s c n first l.initial.self.stages.now
          l.initial.self.machine.now start l.initial.observer prior
          (g.K.Sink.taken l.initial.out) →
          Runs g.O.Observer.acts s c n first l.self.stages.now l.self.machine.now rows l.observer
          prior (g.K.Sink.taken l.out);
    }

abbrev pub decreases-loop-self : goal.decreases-loop-self
decreases-loop-self g l = l.end - l.self.machine.now.at
