use Rattle.std.proofs.Common.{rules}
use Rattle.fp_setup.specs.Checks.{permit_check}
use Rattle.fp_setup.proofs.values.permit.Goals as goal

pub returns-in-Some-true-clause-read : goal.returns-in-Some-true-clause-read
unfolding permit_check
returns-in-Some-true-clause-read c = search rules

pub returns-in-Some-clause-read : goal.returns-in-Some-clause-read
unfolding permit_check
returns-in-Some-clause-read c = search rules

pub returns-in-None-clause-read : goal.returns-in-None-clause-read
unfolding permit_check
returns-in-None-clause-read c = search rules
