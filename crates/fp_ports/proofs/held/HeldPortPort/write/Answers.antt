use Rattle.std.proofs.Common.{rules}
use Rattle.fp_ports.proofs.held.HeldPortPort.write.Goals as goal

pub returns-clause-latch : goal.returns-clause-latch
returns-clause-latch c = search rules
