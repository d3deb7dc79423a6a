use Rattle.std.proofs.Common.{rules}
use Rattle.fp_ports.proofs.ramp.RampPortPort.feed.Goals as goal

pub returns-in-Some-clause-ok : goal.returns-in-Some-clause-ok
returns-in-Some-clause-ok c = search rules

pub returns-in_default-clause-ok : goal.returns-in_default-clause-ok
returns-in_default-clause-ok c = search rules
