-- A run continues to its next put.
use Rattle.std.proofs.Common.{◌≡◌, length, arith, ◌∙◌}
use Rattle.std.proofs.lemmas.List.{length-map}
use Rattle.machine.specs.Running.{turn_of}
use Rattle.machine.proofs.AdvanceLemmas.{advanced_as, put_goes_on, put_stops, runs_pass, same_run}
use Rattle.machine.proofs.run.Run.run_to_put.Goals as goal

pub returns-in_default-clause-runs : goal.returns-in_default-clause-runs
returns-in_default-clause-runs g c = record {
  ok =
      λ s from n first prior within run.
      advanced_as g.O.Observer.acts s from n first c.advance_to_put.new.self.stages.now
      c.advance_to_put.new.self.machine.now _ c.advance_to_put.new.observer prior
      (g.K.Sink.taken c.args.out.now) _
      _ c.in_default.is
      (c.advance_to_put.ensures.advanced s from n first prior (g.K.Sink.taken c.args.out.now)
      within run);
  err = tt;
  fits = tt;
  same = c.advance_to_put.ensures.same;
  within = c.advance_to_put.ensures.end;
  words = c.advance_to_put.ensures.words;
}

pub returns-in-Err-clause-runs : goal.returns-in-Err-clause-runs
returns-in-Err-clause-runs g c = record {
  ok = tt;
  err =
      λ s from n first prior within run.
      rw c.held.ensures (put_stops g.O.Observer.acts s from n first _ _ _ _ prior
      (g.K.Sink.taken c.args.out.now) (g.K.Sink.taken c.write.new.out)
      (advanced_as g.O.Observer.acts s from n first c.advance_to_put.new.self.stages.now
      c.advance_to_put.new.self.machine.now _ c.advance_to_put.new.observer prior
      (g.K.Sink.taken c.args.out.now) _
      _ c.in-Some.is
      (c.advance_to_put.ensures.advanced s from n first prior (g.K.Sink.taken c.args.out.now)
      within run))
      c.in-Err.ensures.err);
  fits =
      rw c.held.ensures (rw c.in-Some.is at c.advance_to_put.ensures.fits);
  same = c.advance_to_put.ensures.same;
  within = c.advance_to_put.ensures.end;
  words = c.advance_to_put.ensures.words;
}

pub returns-clause-runs : goal.returns-clause-runs
returns-clause-runs g c =
    let same : length c.advance_to_put.new.ports.items ≡ 8 = omega (
      arith,
      c.advance_to_put.ensures.eight,
    ) in
    record {
      ok =
          λ s from n first prior within run.
          runs_pass g.O.Observer.acts s from n first c.advance_to_put.new.self.stages.now
          c.skip_sleep.new.self.stages.now c.advance_to_put.new.self.machine.now
          c.skip_sleep.new.self.machine.now _ c.advance_to_put.new.observer prior
          (g.K.Sink.taken c.write.new.out)
          c.skip_sleep.ensures.skips.on (λ w. c.skip_sleep.ensures.skips.passed s n _ w within
          (length-map c.advance_to_put.new.ports.items _ ∙ same))
          (put_goes_on g.O.Observer.acts s from n first c.advance_to_put.new.self.stages.now
          (turn_of c.in-Some.leaving) c.advance_to_put.new.self.machine.now _
          c.advance_to_put.new.observer prior
          (g.K.Sink.taken c.args.out.now) (g.K.Sink.taken c.write.new.out)
          (advanced_as g.O.Observer.acts s from n first c.advance_to_put.new.self.stages.now
          c.advance_to_put.new.self.machine.now _ c.advance_to_put.new.observer prior
          (g.K.Sink.taken c.args.out.now) _
          _ c.in-Some.is
          (c.advance_to_put.ensures.advanced s from n first prior (g.K.Sink.taken
          c.args.out.now) within
          run))
          c.in_default-write.ensures.ok);
      err = tt;
      fits = tt;
      same = same_run c.advance_to_put.ensures.same c.skip_sleep.ensures.same;
      within = c.skip_sleep.ensures.skips.within;
      words = c.advance_to_put.ensures.words;
    }

pub returns-clause-on : goal.returns-clause-on
returns-clause-on g c = omega (arith, c.advance_to_put.ensures.on, c.skip_sleep.ensures.skips.on)
