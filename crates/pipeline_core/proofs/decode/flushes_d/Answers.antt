use Rattle.std.proofs.Common.{rules}
use Rattle.pipeline_core.proofs.decode.flushes_d.Goals as goal

pub returns-in-Some : goal.returns-in-Some
returns-in-Some c = search rules
