-- A rare issue is executed on unchanged units.
use Rattle.std.proofs.Common.{refl}
use Rattle.pipeline_core.proofs.Issue.{executes_from}
use Rattle.pipeline_core.proofs.execute.execute_turn.Goals as goal

pub returns-in-None : goal.returns-in-None
returns-in-None g c = executes_from (c.in-None.ensures.left refl) c.execute_out_of_line.ensures
