use Rattle.std.proofs.Common.{suc, ◌+◌, arith}
use Rattle.loop_runs.proofs.Steps.{by-thread, next-step}
use Rattle.loop_runs.proofs.driver.sample_all.Goals as goal

pub loop-thread-init : goal.loop-thread-init
loop-thread-init g c = record {
  eight = c.requires.eight;
  plants = c.requires.plants;
  looping =
      λ first every s n k some low within at h.
      next-step first _ every s n k c.args.machine.now.at c.args.machine.now _ h;
}

pub loop-thread-preserved : goal.loop-thread-preserved
loop-thread-preserved g c = record {
  eight = c.in_ok-sample_thread.ensures.eight;
  plants = c.in_ok-sample_thread.ensures.plants;
  looping =
      λ first every s n k some low within at h.
      by-thread first _ every s n (suc k) (suc c.loop-thread.thread)
      (c.loop-thread.thread + 1) c.args.machine.now.at c.args.machine.now _ (omega arith)
      (c.in_ok-sample_thread.ensures.looping first every s n k some low within at
      (c.loop-thread.invariant.looping first every s n k some low within at h));
}

pub returns-clause-looping : goal.returns-clause-looping
returns-clause-looping g c =
    λ first every s n k some low within at h.
    by-thread first _ every s n
    (suc k) c.loop-thread.thread 8 c.args.machine.now.at c.args.machine.now _ (omega arith)
    (c.loop-thread.invariant.looping first every s n k some low within at h)
