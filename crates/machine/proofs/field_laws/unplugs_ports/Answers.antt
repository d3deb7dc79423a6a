use Rattle.machine.proofs.PortLemmas.{unplugs}
use Rattle.machine.proofs.field_laws.unplugs_ports.Goals as goal

pub returns : goal.returns
returns c = unplugs
