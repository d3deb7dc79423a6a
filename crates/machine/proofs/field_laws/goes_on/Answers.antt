use Rattle.machine.proofs.PortLemmas.{goes_on}
use Rattle.machine.proofs.field_laws.goes_on.Goals as goal

pub returns : goal.returns
returns c = goes_on
