use Rattle.std.proofs.Common.{rules}
use Rattle.fp_ports.proofs.ports.latch_entry.Goals as goal

pub returns-in-None : goal.returns-in-None
returns-in-None g c = search rules
