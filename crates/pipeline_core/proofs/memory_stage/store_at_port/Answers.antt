use Rattle.std.proofs.Common.{rules}
use Rattle.pipeline_core.proofs.memory_stage.store_at_port.Goals as goal

pub returns-then-address-eq-PORT_ADDRESS-clause-rows :
    goal.returns-then-address-eq-PORT_ADDRESS-clause-rows
returns-then-address-eq-PORT_ADDRESS-clause-rows g c = search rules
