-- Each cycle continues those before it. Only the last one may have a put.
use Rattle.std.proofs.Common.{◌≡◌, ◌-◌, ◌<◌, ◌≤◌, None, Option, length, IfSome}
use Rattle.std.proofs.Common.{refl, ap, sym, subst, arith, ◌∙◌}
use Rattle.std.proofs.lemmas.List.{length-map}
use Rattle.std.proofs.Math.Nat.{le_refl}
use Rattle.std.specs.Prelude.{is_some}
use Rattle.rv_exec.specs.declared.outcome.Event.{Event}
use Rattle.pipe_model.specs.declared.stage_registers.Held.{Held}
use Rattle.pipe_model.specs.declared.stage_registers.Written.{Written}
use Rattle.pipe_model.specs.Stages.{retired_event, writeback_stage}
use Rattle.pipeline_core.specs.Abstraction.{registers_in}
use Rattle.pipeline_core.specs.Turns.{held}
use Rattle.machine.specs.declared.leaving.Leaving.{Leaving}
use Rattle.machine.specs.declared.state.Machine.{Machine}
use Rattle.machine.specs.Running.{turn_of}
use Rattle.machine.proofs.RunLemmas.{left_all}
use Rattle.machine.proofs.AdvanceLemmas.{advanced_as, as_within, begun_no_more, below_in}
use Rattle.machine.proofs.AdvanceLemmas.{goes_forth, knows_still, never, paused_as, runs_on}
use Rattle.machine.proofs.AdvanceLemmas.{runs_pass, runs_to_put, same_begins, same_run}
use Rattle.machine.proofs.AdvanceLemmas.{stays_here, still, stop_within, up_to}
use Rattle.machine.proofs.SleepLemmas.{come_to}
use Rattle.machine.proofs.WordLemmas.{words_on}
use Rattle.machine.proofs.run.Run.advance_to_put.Goals as goal
use Rattle.machine.proofs.run.Run.advance_to_put.Goals.{then-puts, else-puts}

pub loop-self-init : goal.loop-self-init
loop-self-init g c = record {
  within = up_to _ _ c.requires.low;
  before = le_refl _;
  forth = le_refl _;
  begun = λ h. refl;
  last = λ h. cc;
  fits = tt;
  whole = λ h. refl;
  eight = c.requires.eight;
  same = same_begins _;
  known = c.requires.known;
  words = left_all _;
  advanced = λ s from n first prior taken within run. run;
}

pub leaving-requires : goal.leaving-requires
leaving-requires g c = c.observe-puts.ensures.issue c.if-puts.true

pub loop-self-preserved : goal.loop-self-preserved
loop-self-preserved g c =
    let inv = c.loop-self.invariant in
    let cycle = c.tick.ensures.cycle in
    let skip = c.skip_sleep.ensures.skips in
    let m : Machine = c.loop-self.self.machine.now in
    let after : Machine = c.tick.new.self.machine.now in
    let later : Machine = c.skip_sleep.new.self.machine.now in
    let quiet : c.loop-self.paused ≡ None =
    still c.loop-self.paused m.at c.loop-self.stop inv.last c.loop-self-test.true in
    let whole : c.loop-self.stop ≡ c.args.end = inv.whole quiet in
    let below : m.at < c.args.end = subst (λ stop. m.at < stop) whole c.loop-self-test.true in
    let eight : length c.tick.new.ports.items ≡ 8 = omega (arith, c.tick.ensures.eight) in
    let forth : c.args.self.now.machine.now.at ≤ later.at =
    goes_forth _ m.at _ _ inv.forth cycle.at skip.on in
    let stays = same_run c.tick.ensures.same c.skip_sleep.ensures.same in
    let same = same_run inv.same stays in
    let known = knows_still stays inv.known in
    let event : Option Event = retired_event (m.at - 4) (held c.loop-self.self.stages.now.m) in
    let written : Held Written = writeback_stage (held c.loop-self.self.stages.now.m) in
    elim c.if-puts.branch [
      | then-puts w ↦
          (let here : later.at ≡ after.at = stays_here m.at _ _ _ w.stop-is cycle.at skip.on
          skip.within in
          let stayed : after ≡ later = sym (skip.only_at ∙ ap (λ a. come_to after a) here) in
          let stays : registers_in c.tick.new.self.stages.now written
          ≡ registers_in c.skip_sleep.new.self.stages.now (turn_of w.leaving.result) =
          ap (λ v. registers_in c.tick.new.self.stages.now v) w.leaving.ensures.stage
          ∙ ap (λ x. registers_in x (turn_of w.leaving.result)) (sym skip.stay) in
          record {
            within = skip.within;
            before = stop_within m.at _ _ w.stop-is below;
            forth = forth;
            begun = λ h. begun_no_more _ m.at _ _ _ _ h inv.forth cycle.at skip.on;
            last = λ h. here ∙ cycle.at ∙ sym w.stop-is;
            fits =
                subst (λ (o : Option Leaving). IfSome o (λ x. x.thread < 8)) (sym w.paused-is)
                w.leaving.ensures.thread;
            whole = λ h. never c.if-puts.paused _ _ (ap is_some w.paused-is) h;
            eight = c.tick.ensures.eight;
            same = same;
            known = known;
            words = words_on _ _ _ inv.words cycle.words;
            advanced =
                λ s from n first prior taken within run. advanced_as g.O.Observer.acts s from n
                first c.skip_sleep.new.self.stages.now later _ c.observe-puts.new.observer prior
                taken _ _
                (sym w.paused-is)
                (paused_as stays stayed
                (runs_to_put g.O.Observer.acts s from n first c.loop-self.self.stages.now
                (registers_in c.tick.new.self.stages.now written) m after _ _
                c.loop-self.observer c.observe-puts.new.observer event prior taken
                (advanced_as g.O.Observer.acts s from n first c.loop-self.self.stages.now m _
                c.loop-self.observer prior taken _ _ quiet
                (inv.advanced s from n first prior taken within run))
                (λ x. cycle.relation s n x (below_in m.at _ _ below within)) cycle.at
                c.observe-puts.ensures.state (rw w.if-puts.true at c.observe-puts.ensures.bytes)));
          })
      | else-puts w ↦ record {
        within = skip.within;
        before = as_within _ _ _ w.stop-is inv.before;
        forth = forth;
        begun = λ h. begun_no_more _ m.at _ _ _ _ h inv.forth cycle.at skip.on;
        last = λ h. never c.if-puts.paused _ _ h (w.paused-is ∙ quiet);
        fits =
            subst (λ (o : Option Leaving). IfSome o (λ x. x.thread < 8))
            (sym (w.paused-is ∙ quiet)) tt;
        whole = λ h. w.stop-is ∙ whole;
        eight = c.tick.ensures.eight;
        same = same;
        known = known;
        words = words_on _ _ _ inv.words cycle.words;
        advanced =
            λ s from n first prior taken within run. advanced_as g.O.Observer.acts s from n
            first c.skip_sleep.new.self.stages.now later _ c.observe-puts.new.observer prior taken _
            _
            (sym (w.paused-is ∙ quiet))
            (runs_pass g.O.Observer.acts s from n first c.tick.new.self.stages.now
            c.skip_sleep.new.self.stages.now after later _ c.observe-puts.new.observer prior taken
            skip.on
            (λ x. skip.passed s n _ x (as_within _ _ _ (w.stop-is ∙ whole) within)
            (length-map c.tick.new.ports.items _ ∙ eight))
            (runs_on g.O.Observer.acts s from n first c.loop-self.self.stages.now
            c.tick.new.self.stages.now written m after _ _ c.loop-self.observer
            c.observe-puts.new.observer event prior taken
            (advanced_as g.O.Observer.acts s from n first c.loop-self.self.stages.now m _
            c.loop-self.observer prior taken _ _ quiet
            (inv.advanced s from n first prior taken within run))
            (λ x. cycle.relation s n x (below_in m.at _ _ below within)) cycle.at
            c.observe-puts.ensures.state (rw w.if-puts.false at c.observe-puts.ensures.bytes)));
      }
    ]
