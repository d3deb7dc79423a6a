use Rattle.std.proofs.Common.{rules}
use Rattle.trace_print.proofs.refusals.push_source.Goals as goal

pub returns-clause-text : goal.returns-clause-text
returns-clause-text c = search rules
