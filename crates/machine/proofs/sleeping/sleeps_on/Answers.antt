use Rattle.machine.proofs.SleepLemmas.{sleeps_on}
use Rattle.machine.proofs.sleeping.sleeps_on.Goals as goal

pub returns : goal.returns
returns c = sleeps_on
