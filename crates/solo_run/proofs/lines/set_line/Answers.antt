use Rattle.solo_run.proofs.lines.set_line.Goals as goal

pub returns : goal.returns
returns c = c.set.ensures c.args.event.now.thread
