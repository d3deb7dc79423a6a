use Rattle.std.proofs.Common.{rules}
use Rattle.fp_setup.specs.Checks.{bytes_check}
use Rattle.fp_setup.proofs.values.name.Goals as goal

pub returns-clause-read : goal.returns-clause-read
unfolding bytes_check
returns-clause-read c = search rules

pub returns-in_default-clause-read : goal.returns-in_default-clause-read
unfolding bytes_check
returns-in_default-clause-read c = search rules

pub returns-then-text-low-clause-read : goal.returns-then-text-low-clause-read
unfolding bytes_check
returns-then-text-low-clause-read c = search rules
