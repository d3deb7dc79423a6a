use Rattle.std.proofs.Common.{refl}
use Rattle.flexpret_top.proofs.OneThread.{view-thread}
use Rattle.flexpret_top.proofs.alone.alone_in.Goals as goal

pub returns-clause-ok : goal.returns-clause-ok
returns-clause-ok c = record {
  setup = refl;
  thread =
      view-thread c.in_ok-view.view c.args.program.setup c.args.program.image c.args.thread
      c.in_ok-view.ensures.view;
  cycles = refl;
  views = c.in_ok-view.ensures.view;
}
