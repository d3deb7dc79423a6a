use Rattle.std.proofs.Common.{suc, ◌+◌, sym, arith}
use Rattle.loop_runs.proofs.Steps.{at-cycle, begin-step, by-thread}
use Rattle.loop_runs.proofs.driver.begin_all.Goals as goal

pub loop-thread-init : goal.loop-thread-init
loop-thread-init g c = record {
  eight = c.requires.eight;
  looping =
      λ every s n some low st. at-cycle _ _ every s n 0 0 0 c.args.machine.now.at c.args.machine.now
      _ (sym c.requires.start) (begin-step _ every s n c.args.machine.now _ st);
}

pub loop-thread-preserved : goal.loop-thread-preserved
loop-thread-preserved g c = record {
  eight = c.in_ok-begin_thread.ensures.eight;
  looping =
      λ every s n some low st.
      by-thread _ _ every s n 0 (suc c.loop-thread.thread)
      (c.loop-thread.thread + 1) c.args.machine.now.at c.args.machine.now _ (omega arith)
      (c.in_ok-begin_thread.ensures.looping every s n some low
      (c.loop-thread.invariant.looping every s n some low st));
}

pub returns-clause-looping : goal.returns-clause-looping
returns-clause-looping g c =
    λ every s n some low st.
    by-thread _ _ every s n 0 c.loop-thread.thread 8 c.args.machine.now.at c.args.machine.now _
    (omega arith) (c.loop-thread.invariant.looping every s n some low st)
