use Rattle.std.proofs.Common.{rules}
use Rattle.fp_setup.specs.Vocabulary.{number_of}
use Rattle.fp_setup.proofs.vocabulary.Words.number.Goals as goal

pub returns-in-S-clause-number : goal.returns-in-S-clause-number
unfolding number_of
returns-in-S-clause-number c = search rules

pub returns-in-D-clause-number : goal.returns-in-D-clause-number
unfolding number_of
returns-in-D-clause-number c = search rules

pub returns-in-shared-clause-number : goal.returns-in-shared-clause-number
unfolding number_of
returns-in-shared-clause-number c = search rules

pub returns-in-readonly-clause-number : goal.returns-in-readonly-clause-number
unfolding number_of
returns-in-readonly-clause-number c = search rules

pub returns-in-hard-clause-number : goal.returns-in-hard-clause-number
unfolding number_of
returns-in-hard-clause-number c = search rules

pub returns-in-soft-clause-number : goal.returns-in-soft-clause-number
unfolding number_of
returns-in-soft-clause-number c = search rules

pub returns-in-text-clause-number : goal.returns-in-text-clause-number
unfolding number_of
returns-in-text-clause-number c = search rules

pub returns-in-text-2-clause-number : goal.returns-in-text-2-clause-number
unfolding number_of
returns-in-text-2-clause-number c = search rules
