-- The stages one by one are the step.
use Rattle.std.proofs.Common.{sym, refl}
use Rattle.pipeline_core.specs.Abstraction.{registers_in}
use Rattle.pipeline_core.proofs.Stepping.{steps}
use Rattle.pipeline_core.proofs.stages.Stages.tick.Goals as goal

pub returns-clause-step : goal.returns-clause-step
returns-clause-step g c w =
    rw (
      c.younger_stages.ensures.m,
      c.younger_stages.ensures.e,
      c.execute-redirects.ensures.m,
    )
    (steps (registers_in c.args.self.now w) _ _ _ c.args.cycle _ _ _ _ _ _ _ _ _ _ refl
    c.older_stages.ensures.m c.older_stages.ensures.units
    c.now-now.ensures c.early_pick-pick.ensures.pick c.early_pick-pick.ensures.pointer
    (rw c.older_stages.ensures.d at c.execute-redirects.ensures.executed.e)
    (sym (rw c.older_stages.ensures.d at c.execute-redirects.ensures.executed.redirect))
    (rw c.older_stages.ensures.d at c.execute-redirects.ensures.executed.units _)
    (rw (c.execute-redirects.ensures.next, c.older_stages.ensures.next) at
    c.younger_stages.ensures.f) (rw (c.execute-redirects.ensures.next, c.older_stages.ensures.next)
    at c.younger_stages.ensures.pcs)
    (rw (c.execute-redirects.ensures.m, c.execute-redirects.ensures.f, c.older_stages.ensures.f) at
    c.younger_stages.ensures.d))
