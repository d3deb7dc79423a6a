use Rattle.std.proofs.Common.{rules}
use Rattle.call_bounds.proofs.routines_file.has_form.Goals as goal

pub returns-then-are_digits-2-clause-value : goal.returns-then-are_digits-2-clause-value
returns-then-are_digits-2-clause-value c = search rules
