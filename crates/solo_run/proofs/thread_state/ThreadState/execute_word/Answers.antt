-- The thread's instruction on its own units.
use Rattle.std.proofs.Common.{ℕ, Bool, ap, refl, ◌∙◌, arith}
use Rattle.rv_decode.specs.Table.{ins}
use Rattle.core_model.specs.Thread.{Execution}
use Rattle.core_model.specs.Issue.{execute_in, execute_word}
use Rattle.core_model.specs.View.{environment_by}
use Rattle.timer_unit.specs.Time.{is_due}
use Rattle.hart_exec.specs.declared.result.Sources.{Sources}
use Rattle.solo_run.specs.ThreadState.{abstract_environment, own_of}
use Rattle.solo_run.specs.Registers.{sources_in}
use Rattle.solo_run.proofs.Alone.{did_alone, guard_alone, lag_alone}
use Rattle.solo_run.proofs.thread_state.ThreadState.execute_word.Goals as goal

pub returns-clause-did : goal.returns-clause-did
unfolding execute_word environment_by
returns-clause-did c =
    let s = c.args.self.now in
    let regs = s.registers in
    let does : ℕ → Bool → Sources → Execution = λ word expired q.
    execute_in (abstract_environment c.args.now s) s.pc (own_of s) expired word q.a q.b in
    let word = c.code_word.result in
    did_alone _ _ _ _ _ _ _ _ _ s.eight refl refl
    (omega (arith, s.rows.0, s.eight)) (omega (arith, s.rows.1, s.eight))
    (omega (arith, s.rows.2, s.eight)) c.execute_in.ensures.refines
    ∙ ap (λ q. does word c.due-expired.result q)
    (c.sources-sources.ensures ∙ ap (λ i. sources_in regs i) c.decode.ensures.table)
    ∙ ap (λ e. does word e (sources_in regs (ins word))) c.due-expired.ensures
    ∙ ap (λ w. does w (is_due (own_of s).timer.armed c.args.now) (sources_in regs (ins w)))
    c.code_word.ensures

pub returns-clause-guard : goal.returns-clause-guard
returns-clause-guard c = guard_alone _ _ _ _ _ _ _ _ _ refl c.execute_in.ensures.refines

pub returns-clause-lag : goal.returns-clause-lag
returns-clause-lag c = lag_alone _ _ _ _ _ _ _ _ _ refl c.execute_in.ensures.refines
