-- The stage after an executed issue.
use Rattle.std.proofs.Common.{◌-◌, ap, sym, subst, refl, ◌∙◌}
use Rattle.timer_unit.specs.Time.{time}
use Rattle.core_model.specs.Thread.{Environment}
use Rattle.core_model.specs.World.{environment}
use Rattle.hart_exec.specs.Units.{environment_of}
use Rattle.pipe_model.specs.Stages.{After, execute_stage}
use Rattle.pipeline_core.specs.Abstraction.{abstract_registers}
use Rattle.pipeline_core.specs.StageFacts.{ExecutedFits}
use Rattle.pipeline_core.proofs.Issue.{issue_after, size_after}
use Rattle.pipeline_core.proofs.execute.execute_issue.Goals as goal

pub returns-clause-executed : goal.returns-clause-executed
unfolding execute_stage environment_of environment
returns-clause-executed g c =
    let u = c.args.units.now in
    let a : Environment = environment (time u.clock (c.args.cycle - 2)) u.guard.size
    u.confined u.permit (abstract_registers u.sched u.guard) c.args.thread in
    let left = issue_after _ _ _ c.args.x.now a
    (rw (c.now.ensures, c.saturating_sub.ensures, c.is_confined.ensures) refl)
    c.in_ok-done.ensures.refines in
    let control = ap (λ (r : After). r.control) left in
    let size = size_after _ _ _ _ c.in_ok-done.ensures.refines in
    record {
      e = c.put_result.ensures.e ∙ ap (λ (r : After). r.e) left;
      redirect = sym (ap (λ (r : After). r.redirect) left) ∙ c.put_result.ensures.redirect;
      units =
          λ ports j. record {
            bank = u.bank;
            i_words = u.imem;
            d_words = u.dmem;
            control = control j;
            last = u.scheduler;
            period = u.clock;
            size = size j;
            confined = u.confined;
            permit = u.permit;
            ports = ports;
          };
      fits =
          subst ExecutedFits (sym c.put_result.ensures.e) (
            c.requires.thread,
            (c.in_ok-done.ensures.printable, c.in_ok-done.ensures.store),
            c.in_ok-done.ensures.address,
          );
      redirect_fits = c.put_result.ensures.fits;
    }
