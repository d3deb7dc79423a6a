use Rattle.std.proofs.Common.{rules}
use Rattle.fp_ports.proofs.wave.WavePortPort.read.Goals as goal

pub returns-clause-value : goal.returns-clause-value
returns-clause-value c = search rules
