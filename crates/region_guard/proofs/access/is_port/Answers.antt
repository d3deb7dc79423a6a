use Rattle.std.proofs.Common.{rules}
use Rattle.region_guard.proofs.access.is_port.Goals as goal

pub returns-then-address-eq-PORT_ADDRESS : goal.returns-then-address-eq-PORT_ADDRESS
returns-then-address-eq-PORT_ADDRESS c = search rules
