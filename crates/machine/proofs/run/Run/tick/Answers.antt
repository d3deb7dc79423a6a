use Rattle.machine.proofs.run.Run.tick.Goals as goal

pub returns-clause-cycle : goal.returns-clause-cycle
returns-clause-cycle g c = c.do_cycle.ensures.cycle
