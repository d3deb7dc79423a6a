use Rattle.std.proofs.Common.{rules}
use Rattle.fp_setup.specs.Checks.{input_check}
use Rattle.fp_setup.specs.Values.{input_of}
use Rattle.fp_setup.proofs.input_rows.input.Goals as goal

pub returns-in-Ok-Ok-clause-read : goal.returns-in-Ok-Ok-clause-read
unfolding input_check input_of
returns-in-Ok-Ok-clause-read c = search rules

pub returns-in_default-2-clause-read : goal.returns-in_default-2-clause-read
unfolding input_check input_of
returns-in_default-2-clause-read c = search rules

pub returns-in_default-clause-read : goal.returns-in_default-clause-read
unfolding input_check input_of
returns-in_default-clause-read c = search rules
