use Rattle.std.proofs.Common.{rules}
use Rattle.fp_setup.specs.Checks.{integer_check}
use Rattle.fp_setup.proofs.values.integer.Goals as goal

pub returns-in-Ok-clause-read : goal.returns-in-Ok-clause-read
unfolding integer_check
returns-in-Ok-clause-read c = search rules

pub returns-in_default-clause-read : goal.returns-in_default-clause-read
unfolding integer_check
returns-in_default-clause-read c = search rules

pub returns-in_default-try_from-clause-read : goal.returns-in_default-try_from-clause-read
unfolding integer_check
returns-in_default-try_from-clause-read c = search rules
