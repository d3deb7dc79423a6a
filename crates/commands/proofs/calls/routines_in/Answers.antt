use Rattle.std.proofs.Common.{rules}
use Rattle.commands.specs.CallsAnswer.{routines_in}
use Rattle.commands.proofs.calls.routines_in.Goals as goal

pub returns-in-Err-Fault-clause-stop : goal.returns-in-Err-Fault-clause-stop
unfolding routines_in
returns-in-Err-Fault-clause-stop c = search rules

pub returns-in-Ok-clause-ok : goal.returns-in-Ok-clause-ok
unfolding routines_in
returns-in-Ok-clause-ok c = search rules
