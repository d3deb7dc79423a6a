use Rattle.std.proofs.Common.{◌≡◌, ◌-◌, arith}
use Rattle.loop_runs.proofs.Forgetting.{all-same, forgets-from, one-forgot}
use Rattle.loop_runs.proofs.feeding.forget_past.Goals as goal

pub loop-thread-init : goal.loop-thread-init
loop-thread-init g c =
    record { eight = c.requires.eight; forgot = all-same c.saturating_sub-first.result _ }

pub loop-thread-preserved : goal.loop-thread-preserved
loop-thread-preserved g c = record {
  eight = c.forget_port.ensures.eight;
  forgot =
      one-forgot c.saturating_sub-first.result c.loop-thread.thread _ _ _
      c.loop-thread.invariant.forgot c.forget_port.ensures.forgot c.forget_port.ensures.others;
}

pub returns-clause-refines : goal.returns-clause-refines
returns-clause-refines g c =
    λ s n st.
    let e : c.saturating_sub-first.result ≡ c.args.machine.now.at - 3 = omega arith in
    forgets-from c.forgets_running.ensures s c.args.machine.now.at n c.saturating_sub-first.result
    c.args.machine.now _ _ e st c.loop-thread.invariant.forgot
