use Rattle.std.proofs.Common.{rules}
use Rattle.fp_setup.specs.FaultOrder.{key_fault}
use Rattle.fp_setup.proofs.keys.needed_integer.Goals as goal

pub returns-in-None-clause-read : goal.returns-in-None-clause-read
unfolding key_fault
returns-in-None-clause-read c = search rules

pub returns-in-Some-clause-read : goal.returns-in-Some-clause-read
unfolding key_fault
returns-in-Some-clause-read c = search rules
