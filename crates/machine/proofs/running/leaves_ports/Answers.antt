use Rattle.machine.proofs.WordLemmas.{ports_after}
use Rattle.machine.proofs.running.leaves_ports.Goals as goal

pub returns : goal.returns
returns c = ports_after
