-- The last cycle.
use Rattle.machine.proofs.state.Machine.do_last_cycle.Goals as goal

pub returns-clause-cycle : goal.returns-clause-cycle
returns-clause-cycle g c = rw c.written-w.ensures.stage c.do_cycle.ensures.cycle
