use Rattle.std.proofs.Common.{rules}
use Rattle.fp_ports.proofs.ports.feed_entry.Goals as goal

pub returns-in-None-clause-none : goal.returns-in-None-clause-none
returns-in-None-clause-none g c = search rules
