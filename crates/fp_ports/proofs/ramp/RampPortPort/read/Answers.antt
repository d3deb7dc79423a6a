use Rattle.std.proofs.Common.{rules}
use Rattle.fp_ports.proofs.ramp.RampPortPort.read.Goals as goal

pub returns-in_default-clause-value : goal.returns-in_default-clause-value
returns-in_default-clause-value c = search rules
