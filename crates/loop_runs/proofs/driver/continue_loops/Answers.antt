use Rattle.std.proofs.Common.{◌≡◌, ℕ, suc, ◌+◌, ◌*◌, ◌≤◌, Err, ap, sym, ◌∙◌, arith}
use Rattle.std.proofs.lemmas.Result.{err_from_is_err_and}
use Rattle.std.proofs.Math.Nat.{le_refl, le_trans}
use Rattle.timer_unit.specs.Time.{most_cycles}
use Rattle.loop_runs.proofs.Runs.{come-to, looped-at, one-more, room-for, rose-later}
use Rattle.loop_runs.proofs.driver.continue_loops.Goals as goal

pub loop-step-init : goal.loop-step-init
loop-step-init g c = record {
  eight = c.requires.eight;
  plants = c.requires.plants;
  counted = le_refl _;
  at = omega arith;
  looped =
      λ first s n k contents low within at h.
      looped-at first _ c.args.every s n k (k + 0) c.args.machine.now.at c.args.machine.now.at
      c.args.thread c.args.machine.now _ contents _ (omega arith) (omega arith) h;
}

pub loop_step-requires-clause-limit : goal.loop_step-requires-clause-limit
loop_step-requires-clause-limit g c =
    room-for c.loop-step._step c.args.steps c.args.every c.args.machine.now.at
    c.loop-step.machine.at most_cycles c.loop-step-test.true c.loop-step.invariant.at
    c.requires.limit

pub loop_step-requires-clause-eight : goal.loop_step-requires-clause-eight
loop_step-requires-clause-eight g c = c.loop-step.invariant.eight

pub loop_step-requires-clause-plants : goal.loop_step-requires-clause-plants
loop_step-requires-clause-plants g c = c.loop-step.invariant.plants

pub loop-step-preserved : goal.loop-step-preserved
loop-step-preserved g c = record {
  eight = c.in_ok-loop_step.ensures.eight;
  plants = c.in_ok-loop_step.ensures.plants;
  counted = le_trans c.loop-step.invariant.counted c.in_ok-loop_step.ensures.counted;
  at =
      one-more c.loop-step._step c.args.every c.args.machine.now.at c.loop-step.machine.at
      c.loop_step.new.machine.at c.loop-step.invariant.at c.in_ok-loop_step.ensures.at;
  looped =
      λ first s n k contents low within at h.
      let every : ℕ = c.args.every in
      let here = c.loop-step.invariant.looped first s n k contents low within at h in
      let multiple : c.loop-step.machine.at ≡ (k + c.loop-step._step) * every =
      come-to k c.loop-step._step every c.args.machine.now.at
      c.loop-step.machine.at at c.loop-step.invariant.at in
      let room : c.loop-step.machine.at + every ≤ n =
      room-for c.loop-step._step c.args.steps every c.args.machine.now.at
      c.loop-step.machine.at n c.loop-step-test.true c.loop-step.invariant.at within in
      let next = c.in_ok-loop_step.ensures.looped first s n
      (k + c.loop-step._step) contents low room multiple here in
      looped-at first _ every s n (suc (k + c.loop-step._step))
      (k + (c.loop-step._step + 1)) c.loop_step.new.machine.at c.loop_step.new.machine.at
      c.args.thread c.loop_step.new.machine _ contents _ (omega arith) (omega arith) next;
}

pub returns-clause-looped : goal.returns-clause-looped
returns-clause-looped g c =
    λ first s n k contents low within at h.
    let e : k + c.loop-step._step ≡ k + c.args.steps =
    omega (arith, c.loop-step-test.false, c.loop-step.auto._step-end) in
    looped-at first _ c.args.every s n (k + c.loop-step._step) (k + c.args.steps)
    c.loop-step.machine.at c.loop-step.machine.at c.args.thread c.loop-step.machine _ contents _ e
    (omega arith) (c.loop-step.invariant.looped first s n k contents low within at h)

pub returns-in_err-loop_step-clause-stopped : goal.returns-in_err-loop_step-clause-stopped
returns-in_err-loop_step-clause-stopped g c =
    let p = err_from_is_err_and c.from_residual.result c.from_residual.ensures.1 in
    rw p.1 (λ first s n k contents low within at h. let every : ℕ = c.args.every in
    let here = c.loop-step.invariant.looped first s n k contents low within at h in
    let multiple : c.loop-step.machine.at ≡ (k + c.loop-step._step) * every = come-to k
    c.loop-step._step every c.args.machine.now.at
    c.loop-step.machine.at at c.loop-step.invariant.at in
    let room : c.loop-step.machine.at + every ≤ n = room-for c.loop-step._step
    c.args.steps every c.args.machine.now.at c.loop-step.machine.at
    n c.loop-step-test.true c.loop-step.invariant.at within in
    c.in_err-loop_step.ensures.stopped first s n
    (k + c.loop-step._step) contents low room multiple here)

pub returns-in_err-loop_step-clause-failed : goal.returns-in_err-loop_step-clause-failed
returns-in_err-loop_step-clause-failed g c =
    λ e.
    let p = err_from_is_err_and c.from_residual.result c.from_residual.ensures.1 in
    rose-later _ _ _ c.loop-step.invariant.counted
    (c.in_err-loop_step.ensures.failed (sym (p.1 ∙ ap (λ x. Err x) p.2) ∙ e))

pub returns-in_err-loop_step-clause-counted : goal.returns-in_err-loop_step-clause-counted
returns-in_err-loop_step-clause-counted g c =
    le_trans c.loop-step.invariant.counted c.in_err-loop_step.ensures.counted

pub returns-clause-counted : goal.returns-clause-counted
returns-clause-counted g c = c.loop-step.invariant.counted
