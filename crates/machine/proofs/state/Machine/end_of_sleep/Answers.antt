use Rattle.std.proofs.Common.{arith}
use Rattle.machine.proofs.state.Machine.end_of_sleep.Goals as goal

pub returns-clause-asleep : goal.returns-clause-asleep
returns-clause-asleep c k low below =
    c.first_awake_cycle.ensures k (omega (arith, low, below, c.max.ensures, c.min.ensures))
