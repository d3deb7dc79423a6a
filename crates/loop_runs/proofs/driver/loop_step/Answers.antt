use Rattle.std.proofs.Common.{◌≡◌, ℕ, suc, ◌+◌, ◌*◌, ap, ◌∙◌, arith}
use Rattle.std.proofs.lemmas.Result.{err_from_is_err_and}
use Rattle.loop_runs.proofs.Forgetting.{forgot-looping}
use Rattle.loop_runs.proofs.Runs.{looped-at, looped-prefix, next-cycle}
use Rattle.loop_runs.proofs.Runs.{ran-step, stepped-looped, stopped-prefix}
use Rattle.loop_runs.proofs.driver.loop_step.Goals as goal

pub returns-clause-looped : goal.returns-clause-looped
returns-clause-looped g c =
    λ first s n k contents low within at h.
    let every : ℕ = c.args.every in
    let now : ℕ = c.args.machine.now.at in
    let after : ℕ = c.run_on.new.self.at in
    let end : ℕ = c.cycle.result + every in
    let done : after ≡ end = c.in_ok-run_on.ensures.cycles in
    let same : end ≡ now + every = ap (λ (x : ℕ). x + every) c.cycle.ensures in
    let e : after ≡ now + every = done ∙ same in
    let multiple : after ≡ suc k * every = next-cycle k every now after at e in
    let ran = ran-step first _ every s n k now end c.args.thread c.args.machine.now
    c.run_on.new.self _ _ contents (g.K.Sink.taken c.args.out.now) (g.K.Sink.taken
    c.run_on.new.out) h
    (omega (arith, same)) (omega (arith, same, within)) (omega (arith, done, multiple))
    (λ run. c.in_ok-run_on.ensures.ok _ n _ contents (omega (arith, same, within)) run) in
    let here = looped-at first _ every s n k k end after c.args.thread c.run_on.new.self _ contents
    (g.K.Sink.taken c.run_on.new.out) (omega arith) (omega (arith, done)) ran in
    stepped-looped first _ _ every s n k after c.args.thread c.run_on.new.self _ _ contents
    (g.K.Sink.taken c.run_on.new.out) here
    (c.in_ok-sample_all.ensures.looping first every s n k c.requires.some low
    (omega (arith, e, within)) multiple (forgot-looping first _ every s n k 8 after
    c.run_on.new.self _ _ (λ t st. c.forget_past.ensures.refines t n st) here.looping))

pub returns-in_err-run_on-clause-stopped : goal.returns-in_err-run_on-clause-stopped
returns-in_err-run_on-clause-stopped g c =
    let every : ℕ = c.args.every in
    let now : ℕ = c.args.machine.now.at in
    let end : ℕ = c.cycle.result + every in
    let same : end ≡ now + every = ap (λ (x : ℕ). x + every) c.cycle.ensures in
    let p = err_from_is_err_and c.from_residual.result c.from_residual.ensures.1 in
    rw p.1 (λ first s n k contents low within at h.
    let multiple : end ≡ suc k * every = next-cycle k every now end at same in
    stopped-prefix c.events_grow.ensures first _ every s n k now end c.args.thread
    c.args.machine.now c.run_on.new.self _ _ contents (g.K.Sink.taken c.args.out.now)
    (g.K.Sink.taken c.run_on.new.out) h (omega (arith, same))
    (omega (arith, same, within)) (omega (arith, multiple)) c.run_on.ensures.end
    (λ run. c.in_err-run_on.ensures.err _ n _ contents (omega (arith, same, within)) run))

pub returns-in_err-sample_all-clause-stopped : goal.returns-in_err-sample_all-clause-stopped
returns-in_err-sample_all-clause-stopped g c =
    let every : ℕ = c.args.every in
    let now : ℕ = c.args.machine.now.at in
    let end : ℕ = c.cycle.result + every in
    let same : end ≡ now + every = ap (λ (x : ℕ). x + every) c.cycle.ensures in
    let p = err_from_is_err_and c.from_residual-in_err-sample_all.result
    c.from_residual-in_err-sample_all.ensures.1 in
    rw p.1 (λ first s n k contents low within at h.
    let multiple : end ≡ suc k * every = next-cycle k every now end at same in
    looped-prefix c.events_grow.ensures first _ every s n k end c.args.thread
    c.run_on.new.self _ contents (g.K.Sink.taken c.run_on.new.out) (omega (arith, same, within))
    (ran-step first _ every s n k now end c.args.thread c.args.machine.now c.run_on.new.self
    _ _ contents (g.K.Sink.taken c.args.out.now) (g.K.Sink.taken c.run_on.new.out) h
    (omega (arith, same)) (omega (arith, same, within)) (omega (arith, multiple))
    (λ run. c.in_ok-run_on.ensures.ok _ n _ contents (omega (arith, same, within)) run)))
