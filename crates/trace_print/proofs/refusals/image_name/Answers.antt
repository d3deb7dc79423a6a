use Rattle.std.proofs.Common.{rules}
use Rattle.trace_print.specs.Refusals.{image_names}
use Rattle.trace_print.proofs.refusals.image_name.Goals as goal

pub returns-in-3-clause-name : goal.returns-in-3-clause-name
unfolding image_names
returns-in-3-clause-name c = search rules
