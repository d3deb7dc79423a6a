use Rattle.std.proofs.Common.{◌≡◌, ℕ, ◌+◌, ◌-◌, ◌<◌, ◌≤◌, true, Option, None, IfSome, List, vec_len}
use Rattle.std.specs.Prelude.{is_some}
use Rattle.fp_ports.specs.PluggedPorts.{rows_of}
use Rattle.core_model.specs.World.{Start}
use Rattle.machine.specs.Running.{Advanced, IsSameRun, KnowsPorts, Runs}
use Rattle.machine.specs.WorldRelation.{AreLeft}
use Rattle.machine.proofs.run.Run.advance_to_put.Given as goal

abbrev pub invariant-loop-self : goal.invariant-loop-self
invariant-loop-self g l =
    let rows = rows_of (λ b. (goal.Port-dyn g (b.vtable, b.value)).latched b.value)
    (λ b. (goal.Port-dyn g (b.vtable, b.value)).word_at b.value) l.ports.items in
    let start = rows_of (λ b. (goal.Port-dyn g (b.vtable, b.value)).latched b.value)
    (λ b. (goal.Port-dyn g (b.vtable, b.value)).word_at b.value) l.initial.ports.items in
    record {
      within : l.self.machine.now.at ≤ l.stop;
      before : l.stop ≤ l.end;
      forth : l.initial.self.machine.now.at ≤ l.self.machine.now.at;
      begun : l.self.machine.now.at ≡ l.initial.self.machine.now.at → l.stop ≡ l.end;
      last : is_some l.paused ≡ true → l.self.machine.now.at ≡ l.stop;
      fits : IfSome l.paused (λ x. x.thread < 8);
      whole : l.paused ≡ None → l.stop ≡ l.end;
      eight : vec_len l.ports ≡ 8;
      same : IsSameRun l.initial.self l.self;
      known : KnowsPorts l.self;
      words : AreLeft start rows;
      advanced : (s : Start) (c n : ℕ) (first : _) (prior taken : Option (List ℕ)) →
          l.end ≤ n + 3 →
          Runs g.O.Observer.acts s c n first l.initial.self.stages.now
          l.initial.self.machine.now start l.initial.observer prior taken →
          Advanced g.O.Observer.acts s c n first l.self.stages.now l.self.machine.now rows
          l.observer prior taken l.paused;
    }

abbrev pub decreases-loop-self : goal.decreases-loop-self
decreases-loop-self g l = l.end - l.self.machine.now.at
