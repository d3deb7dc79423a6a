use Rattle.std.proofs.Common.{rules}
use Rattle.trap_unit.proofs.unit.Traps.access.Goals as goal

pub returns-in_default-clause-answer : goal.returns-in_default-clause-answer
returns-in_default-clause-answer c = search rules

pub returns-then-not-permit-clause-answer : goal.returns-then-not-permit-clause-answer
returns-then-not-permit-clause-answer c = search rules

pub returns-then-writes-clause-answer : goal.returns-then-writes-clause-answer
returns-then-writes-clause-answer c = search rules

pub returns-then-not-writes-clause-answer : goal.returns-then-not-writes-clause-answer
returns-then-not-writes-clause-answer c = search rules

pub returns-then-not-may_hold-clause-answer : goal.returns-then-not-may_hold-clause-answer
returns-then-not-may_hold-clause-answer c = search rules

pub returns-clause-answer : goal.returns-clause-answer
returns-clause-answer c = search rules
