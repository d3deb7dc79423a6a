use Rattle.std.proofs.Common.{rules}
use Rattle.commands.proofs.status.Status.of_refusal.Goals as goal

pub returns-in-Routines : goal.returns-in-Routines
returns-in-Routines c = search rules
