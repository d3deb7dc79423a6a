use Rattle.std.proofs.Common.{rules}
use Rattle.fp_setup.proofs.vocabulary.thread_number.Goals as goal

pub returns-in-T0-clause-number : goal.returns-in-T0-clause-number
returns-in-T0-clause-number c = search rules

pub returns-in-T1-clause-number : goal.returns-in-T1-clause-number
returns-in-T1-clause-number c = search rules

pub returns-in-T2-clause-number : goal.returns-in-T2-clause-number
returns-in-T2-clause-number c = search rules

pub returns-in-T3-clause-number : goal.returns-in-T3-clause-number
returns-in-T3-clause-number c = search rules

pub returns-in-T4-clause-number : goal.returns-in-T4-clause-number
returns-in-T4-clause-number c = search rules

pub returns-in-T5-clause-number : goal.returns-in-T5-clause-number
returns-in-T5-clause-number c = search rules

pub returns-in-T6-clause-number : goal.returns-in-T6-clause-number
returns-in-T6-clause-number c = search rules

pub returns-in-T7-clause-number : goal.returns-in-T7-clause-number
returns-in-T7-clause-number c = search rules
