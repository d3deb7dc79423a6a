use Rattle.std.proofs.Common.{rules}
use Rattle.fp_ports.proofs.ramp.RampPortPort.write.Goals as goal

pub returns-clause-words : goal.returns-clause-words
returns-clause-words c = search rules
