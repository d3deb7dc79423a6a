use Rattle.std.proofs.Common.{rules}
use Rattle.flexpret_top.proofs.shown.is_gone.Goals as goal

pub returns-in-Some : goal.returns-in-Some
returns-in-Some c = search rules
