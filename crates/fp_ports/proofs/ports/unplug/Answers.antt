use Rattle.std.proofs.lemmas.List.{map-set}
use Rattle.fp_ports.proofs.ports.unplug.Goals as goal

pub returns-clause-rows : goal.returns-clause-rows
returns-clause-rows g c = map-set _ _ _ _
