use Rattle.std.proofs.Common.{rules}
use Rattle.trace_print.specs.Places.{key_text}
use Rattle.trace_print.proofs.places.key_name.Goals as goal

pub returns-in-2-eq4-clause-name : goal.returns-in-2-eq4-clause-name
unfolding key_text
returns-in-2-eq4-clause-name c = search rules
