use Rattle.machine.proofs.FedLemmas.{feeds}
use Rattle.machine.proofs.feeding.feeds_the_start.Goals as goal

pub returns : goal.returns
returns c = feeds
