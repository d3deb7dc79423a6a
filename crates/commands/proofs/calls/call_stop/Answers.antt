use Rattle.std.proofs.Common.{rules}
use Rattle.commands.proofs.calls.call_stop.Goals as goal

pub returns : goal.returns
returns c = search rules
