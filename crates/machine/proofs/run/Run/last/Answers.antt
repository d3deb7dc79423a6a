-- The last cycle.
use Rattle.machine.proofs.run.Run.last.Goals as goal

pub returns-clause-cycle : goal.returns-clause-cycle
returns-clause-cycle g c = c.do_last_cycle.ensures.cycle
