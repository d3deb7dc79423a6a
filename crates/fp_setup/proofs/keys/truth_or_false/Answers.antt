use Rattle.std.proofs.Common.{rules}
use Rattle.fp_setup.specs.FaultOrder.{key_fault}
use Rattle.fp_setup.proofs.keys.truth_or_false.Goals as goal

pub returns-in-None : goal.returns-in-None
unfolding key_fault
returns-in-None c = search rules

pub returns-in-Some : goal.returns-in-Some
unfolding key_fault
returns-in-Some c = search rules
