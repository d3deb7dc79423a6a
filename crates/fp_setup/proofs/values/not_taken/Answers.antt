use Rattle.std.proofs.Common.{rules}
use Rattle.fp_setup.specs.Checks.{not_taken_check}
use Rattle.fp_setup.proofs.values.not_taken.Goals as goal

pub returns-clause-read : goal.returns-clause-read
unfolding not_taken_check
returns-clause-read c = search rules

pub returns-in_err-number-clause-read : goal.returns-in_err-number-clause-read
unfolding not_taken_check
returns-in_err-number-clause-read c = search rules

pub returns-then-contains-clause-read : goal.returns-then-contains-clause-read
unfolding not_taken_check
returns-then-contains-clause-read c = search rules
