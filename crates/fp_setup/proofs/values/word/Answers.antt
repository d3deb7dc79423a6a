use Rattle.std.proofs.Common.{rules}
use Rattle.fp_setup.specs.Checks.{word_check}
use Rattle.fp_setup.specs.SetupOfTables.{number_of_name}
use Rattle.fp_setup.proofs.values.word.Goals as goal

pub returns-in-None-clause-read : goal.returns-in-None-clause-read
unfolding word_check number_of_name
returns-in-None-clause-read c = search rules

pub returns-in-Some-number-clause-read : goal.returns-in-Some-number-clause-read
unfolding word_check number_of_name
returns-in-Some-number-clause-read c = search rules

pub returns-in_default-clause-read : goal.returns-in_default-clause-read
unfolding word_check number_of_name
returns-in_default-clause-read c = search rules
