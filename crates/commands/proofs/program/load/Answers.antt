use Rattle.std.proofs.Common.{rules}
use Rattle.commands.proofs.program.load.Goals as goal

pub returns-in_err-image-clause-stop : goal.returns-in_err-image-clause-stop
returns-in_err-image-clause-stop g c = search rules

pub returns-clause-ok : goal.returns-clause-ok
returns-clause-ok g c = search rules
